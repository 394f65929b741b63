use Rattle.rly_link_udp.proofs.Turns.{turns_handed}
use Rattle.rly_link_udp.proofs.wall_clock.WallClock.law_turns.Goals as goal

pub returns : goal.returns
returns g c left points = turns_handed left points
