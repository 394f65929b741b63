-- Ghost histories of a worker's link, client handle, clock and waker.
use Rattle.std.specs.Prelude.{◌≡◌, ◌⊎◌, ℕ, ◌<◌, ◌-◌, ◌^◌, List, ◌++◌}
use Rattle.std.specs.Prelude.{take, Option, Some, None, Result, Ok, Err, ⊤}
use Rattle.std.specs.Result.{result_ok}
use Rattle.rly_hop.specs.declared.message.Message.{Message}
use Rattle.rly_hop.specs.MessageReads.{message_or_fault}
use Rattle.rly_link.specs.declared.link.LinkFault.{LinkFault}
use Rattle.rly_link.specs.declared.link.Sleep.{Sleep}
use Rattle.rly_link.specs.declared.turn.Go.{Go}
use Rattle.rly_link.specs.declared.turn.Point.{Point}
use Rattle.rly_link.specs.declared.turn.Worker.{Worker}

-- the history grew by these; an endpoint that records none may record anything later
abbrev pub TellsMore : {A : Type 0} → Option (List A) → Option (List A) → List A → Type 0
TellsMore None new more = ⊤
TellsMore (Some told) new more = new ≡ Some (told ++ more)

-- a count of failures rose, or is at its last value
abbrev pub FailuresRose : ℕ → ℕ → Type 0
FailuresRose old new = (old < new) ⊎ (old ≡ 2 ^ 64 - 1)

-- how long a receive of a link might wait, and the packet that it returned, if any
pub record Hearing : Type 0 where
  pub sleep : Sleep
  pub packet : Option (List ℕ)

abbrev pub new_hearing : Sleep → Option (List ℕ) → Hearing
new_hearing sleep packet = record { sleep = sleep; packet = packet }

-- the packet that a receive copied to the front of a buffer, if any
abbrev pub packet_in : Option ℕ → List ℕ → Option (List ℕ)
packet_in (Some count) buffer = Some (take count buffer)
packet_in None buffer = None

-- the same of a receive that may have failed, which returns none
abbrev pub packet_of : Result (Option ℕ) LinkFault → List ℕ → Option (List ℕ)
packet_of (Ok found) buffer = packet_in found buffer
packet_of (Err _) buffer = None

-- the message in a received packet, if it is one
abbrev pub message_in : Option (List ℕ) → Option (Message (List ℕ))
message_in None = None
message_in (Some packet) = result_ok (message_or_fault packet)

-- a tick, with its worker and point
abbrev pub Handed : Type 0
Handed = Worker × Point × Go
