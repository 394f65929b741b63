use Rattle.rly_line.proofs.Submitting.{forks}
use Rattle.rly_line.proofs.submission.Line.seat.Goals as goal

pub another-pass-requires-clause-rule : goal.another-pass-requires-clause-rule
another-pass-requires-clause-rule c = forks _ _ c.self.invariant.1
