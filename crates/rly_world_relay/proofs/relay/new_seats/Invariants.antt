use Rattle.std.proofs.Common.{◌≡◌, ◌≤◌, length, replicate, vec_capacity}
use Rattle.rly_world.specs.RelayWorld.{new_seat}
use Rattle.rly_world_relay.specs.HelpersSeats.{views_of}
use Rattle.rly_world_relay.proofs.relay.new_seats.Given as goal

abbrev pub invariant-loop : goal.invariant-loop
invariant-loop l =
    (views_of l.seats.items ≡ replicate l.counter new_seat) × (l.counter ≤ l.count) × (length l.seats.items ≡ l.counter) × (l.fn.count ≤ vec_capacity l.seats)
