use Rattle.rly_reclaim.proofs.LiveRooms.{has_room_for}
use Rattle.rly_reclaim.proofs.live_laws.law_live_room.Goals as goal

pub returns : goal.returns
returns c g s current free victim within fits sound params free_is victim_is =
    has_room_for g s current free victim within fits sound params free_is victim_is
