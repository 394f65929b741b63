use Rattle.rly_line.proofs.Submitting.{line_law}
use Rattle.rly_line.proofs.laws.law_line.Goals as goal

pub returns : goal.returns
returns c = line_law
