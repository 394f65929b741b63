use Rattle.rly_machine.proofs.Runs.{sound_from_new}
use Rattle.rly_machine.proofs.laws.law_balance.Goals as goal

pub returns : goal.returns
returns g c params commands within = sound_from_new g.C.Content.length_of params commands within
