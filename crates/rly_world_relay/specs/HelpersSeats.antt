-- The seats of a relay, with the capacity of their reply queues.
use Rattle.std.specs.Prelude.{◌≤◌, ℕ, List, map}
use Rattle.std.specs.List.{AllByRecursion}
use Rattle.rly_world.specs.RelayWorld.{SeatView}

-- a seat, and the spare capacity of its reply queue
pub record RoomySeat : Type 0 where
  pub seat : SeatView
  pub room : ℕ

-- the seats of the model
abbrev pub views_of : List RoomySeat → List SeatView
views_of seats = map (λ s. s.seat) seats

-- each has memory for this many replies
abbrev pub HaveRoom : ℕ → List RoomySeat → Type 0
HaveRoom count seats = AllByRecursion (λ s. count ≤ s.room) seats
