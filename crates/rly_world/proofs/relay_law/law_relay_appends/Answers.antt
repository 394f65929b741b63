use Rattle.rly_world.proofs.RelayAppends.{relay_appends}
use Rattle.rly_world.proofs.relay_law.law_relay_appends.Goals as goal

pub returns : goal.returns
returns c = relay_appends
