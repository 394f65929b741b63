use Rattle.std.proofs.Common.{◌≡◌, ◌++◌, drop, map, take}
use Rattle.rly_world.specs.RelayWorld.{new_seat}
use Rattle.rly_world_relay.specs.HelpersSeats.{views_of}
use Rattle.rly_world_relay.proofs.relay.Relay.stop.Given as goal

abbrev pub invariant-loop-seat : goal.invariant-loop-seat
invariant-loop-seat l =
    views_of l.seat-items ≡ map (λ seat. new_seat) (take l.seat-index l.fn.self.seats) ++ drop l.seat-index l.fn.self.seats
