use Rattle.rly_plan.proofs.LinkLaws.{count_never_falls}
use Rattle.rly_plan.proofs.laws.law_link_never_falls.Goals as goal

pub returns : goal.returns
returns c = count_never_falls _ _ _ c.requires
