-- The state of the sending end of custody.
use Rattle.std.specs.Prelude.{ℕ, Bool, Option, ◌≤◌, ◌<◌}
use Rattle.std.specs.Option.{ForSome}
use Rattle.rly_hop.specs.declared.message.StationId.{StationId}

-- The own station, the hop's station, and the maximum number of datagrams in flight; whether the window is known;
-- the known numbers in flight, from first to below next; the next of them to send; and the greatest of them that
-- the hop's station has acknowledged since the last release.
pub record Sender : Type 0 where
  pub own : StationId
  pub hop : StationId
  pub window : ℕ
  pub ready : Bool
  pub first : ℕ
  pub next : ℕ
  pub cursor : ℕ
  pub acked : Option ℕ

-- the cursor is in the flight or right after it, and the acknowledged number is in the flight
pub record IsInOrder (s : Sender) : Type 0 where
  pub begun : s.first ≤ s.cursor
  pub ended : s.cursor ≤ s.next
  pub acked : ForSome s.acked (λ a. (s.first ≤ a) × (a < s.next))
