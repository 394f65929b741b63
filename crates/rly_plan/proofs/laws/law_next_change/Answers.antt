use Rattle.rly_plan.proofs.ChangeLaws.{next_change_is}
use Rattle.rly_plan.proofs.laws.law_next_change.Goals as goal

pub returns : goal.returns
returns c = next_change_is
