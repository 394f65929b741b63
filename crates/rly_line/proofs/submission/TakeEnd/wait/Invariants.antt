use Rattle.std.proofs.Common.{◌≡◌}
use Rattle.rly_line.proofs.submission.TakeEnd.wait.Given as goal

-- nothing was received
abbrev pub invariant-loop-count : goal.invariant-loop-count
invariant-loop-count g l = l.self ≡ l.fn.self
