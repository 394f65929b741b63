use Rattle.rly_line.proofs.Submitting.{begins}
use Rattle.rly_line.proofs.submission.Line.new.Goals as goal

pub bounded_with-requires-clause-rule : goal.bounded_with-requires-clause-rule
bounded_with-requires-clause-rule c = begins
