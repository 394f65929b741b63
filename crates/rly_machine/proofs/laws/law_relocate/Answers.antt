use Rattle.rly_machine.proofs.Relocating.{state_stays}
use Rattle.rly_machine.proofs.laws.law_relocate.Goals as goal

pub returns : goal.returns
returns g c f s hop index content same = state_stays f s hop index content same
