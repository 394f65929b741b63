use Rattle.rly_plan.proofs.SoundPlans.{plan_sound}
use Rattle.rly_plan.proofs.laws.law_plan_is_sound.Goals as goal

pub returns : goal.returns
returns c = plan_sound
