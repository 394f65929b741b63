use Rattle.std.proofs.Common.{◌≡◌, take}
use Rattle.rly_world_relay.specs.HelpersSeats.{HaveRoom, views_of}
use Rattle.rly_world_relay.proofs.round.reserve.Given as goal

abbrev pub invariant-loop-seat : goal.invariant-loop-seat
invariant-loop-seat l =
    (views_of l.seat-items ≡ views_of l.fn.seats.items) × HaveRoom 64 (take l.seat-index l.seat-items)
