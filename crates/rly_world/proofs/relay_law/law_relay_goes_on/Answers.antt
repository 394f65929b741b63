use Rattle.rly_world.proofs.RelayGoesOn.{relay_goes_on}
use Rattle.rly_world.proofs.relay_law.law_relay_goes_on.Goals as goal

pub returns : goal.returns
returns c = relay_goes_on
