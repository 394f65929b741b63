use Rattle.std.proofs.Common.{arith}
use Rattle.rly_law.proofs.Steps.{IsStep-step_of, step-falls}
use Rattle.rly_law.proofs.laws.law_step_falls.Goals as goal

pub returns : goal.returns
returns c =
    step-falls _ _ _ _ _ c.requires.more
    (IsStep-step_of _ _ c.requires.interval c.requires.fewer)
    (IsStep-step_of _ _ c.requires.interval (omega arith))
