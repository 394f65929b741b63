use Rattle.rly_station.proofs.plan_file.read_plan.Goals as goal

pub returns-in-Ok-read-clause-sound : goal.returns-in-Ok-read-clause-sound
returns-in-Ok-read-clause-sound g c = c.law_plan_is_sound.ensures _ _ c.in-Ok-read.ensures.plan
