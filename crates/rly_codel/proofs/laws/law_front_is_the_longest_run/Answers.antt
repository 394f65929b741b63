use Rattle.std.proofs.Common.{refl}
use Rattle.rly_codel.proofs.Fronts.{front_of-all_over, front_of-ends}
use Rattle.rly_codel.proofs.laws.law_front_is_the_longest_run.Goals as goal

pub returns-clause-all_over : goal.returns-clause-all_over
returns-clause-all_over c params now queue = front_of-all_over params now queue

pub returns-clause-ends : goal.returns-clause-ends
returns-clause-ends c params now queue = front_of-ends params now queue _ refl
