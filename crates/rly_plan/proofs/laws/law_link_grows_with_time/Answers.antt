use Rattle.rly_plan.proofs.LinkLaws.{count_grows}
use Rattle.rly_plan.proofs.laws.law_link_grows_with_time.Goals as goal

pub returns : goal.returns
returns c = count_grows _ _ _ c.requires
