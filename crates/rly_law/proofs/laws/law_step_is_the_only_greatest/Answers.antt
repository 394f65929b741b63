use Rattle.rly_law.proofs.Steps.{IsStep-step_of, IsStep-unique}
use Rattle.rly_law.proofs.laws.law_step_is_the_only_greatest.Goals as goal

pub returns : goal.returns
returns c =
    IsStep-unique _ _ _ _ c.requires.greatest (IsStep-step_of _ _ c.requires.interval c.requires.count)
