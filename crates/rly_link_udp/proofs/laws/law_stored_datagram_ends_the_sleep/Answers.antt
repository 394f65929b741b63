use Rattle.rly_link_udp.proofs.BellSteps.{stored_ends_sleep}
use Rattle.rly_link_udp.proofs.laws.law_stored_datagram_ends_the_sleep.Goals as goal

pub returns : goal.returns
returns g b = stored_ends_sleep b
