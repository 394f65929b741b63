use Rattle.rly_hop_pacing.proofs.RateMoments.{no-earlier, no-room-before, room-then}
use Rattle.rly_hop_pacing.proofs.rate.law_next_moment_is_the_first_with_room.Goals as goal

pub returns : goal.returns
returns c = record { after = no-earlier; before = no-room-before; then = room-then }
