use Rattle.rly_reclaim.proofs.Rooms.{has_room}
use Rattle.rly_reclaim.proofs.room_law.law_room.Goals as goal

pub returns : goal.returns
returns c g live current free victim within fits all sum free_is victim_is = has_room g live current free victim within fits all sum free_is victim_is
