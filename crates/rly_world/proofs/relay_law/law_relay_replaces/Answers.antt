use Rattle.rly_world.proofs.RelayReplaces.{relay_replaces}
use Rattle.rly_world.proofs.relay_law.law_relay_replaces.Goals as goal

pub returns : goal.returns
returns c = relay_replaces
