use Rattle.rly_world.proofs.RelayStart.{told_held}
use Rattle.rly_world.proofs.relay_law.law_relay.Goals as goal

pub returns : goal.returns
returns c g seats bytes events w formatted run image left = told_held g seats bytes events w formatted run image left
