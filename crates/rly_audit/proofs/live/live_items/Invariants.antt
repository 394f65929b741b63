use Rattle.std.proofs.Common.{◌≡◌, length, sum_by, take}
use Rattle.rly_machine.specs.State.{live_line}
use Rattle.rly_audit.proofs.live.live_items.Given as goal

-- the live datagrams of as many hops
abbrev pub invariant-loop-index : goal.invariant-loop-index
invariant-loop-index g l = l.live ≡ sum_by (λ h. length (live_line h)) (take l.index l.journal.state.hops)
