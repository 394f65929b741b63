-- The reorder buffer over a list of events (docs/PROTOCOL.md, "What comes ahead of a gap").
use Rattle.std.specs.Prelude.{◌⊎◌, ℕ, List, [], ◌∷◌, Contains}
use Rattle.rly_link_reorder.specs.ReorderBuffer.{ReorderView, BufferedData, reorder_after_custody, after_data}
use Rattle.rly_link_reorder.specs.ReorderBuffer.{after_giving, after_heard, after_refusal}

-- the events: a Data is received, in this packet; the due packet is delivered, into a buffer of this many bytes;
-- custody of all numbers up to this one is sent; a refusal of a number is sent; a Heard is sent
pub data ReorderEvent : Type 0 where
  Came : (number : ℕ) (packet : List ℕ) → ReorderEvent
  Asked : (room : ℕ) → ReorderEvent
  Covered : (last : ℕ) → ReorderEvent
  Refused : (number : ℕ) → ReorderEvent
  Told : ReorderEvent

-- the state after an event
abbrev pub reorder_after_event : ReorderView → ReorderEvent → ReorderView
reorder_after_event e (Came number packet) = after_data e number packet
reorder_after_event e (Asked room) = after_giving e room
reorder_after_event e (Covered last) = reorder_after_custody e last
reorder_after_event e (Refused number) = after_refusal e number
reorder_after_event e Told = after_heard e

-- the state after these events, in order
abbrev pub after_events : ReorderView → List ReorderEvent → ReorderView
after_events e [] = e
after_events e (event ∷ events) = after_events (reorder_after_event e event) events

-- a stored Data was received in one of these events, under its number, byte for byte
abbrev pub HasCome : List ReorderEvent → BufferedData → Type 0
HasCome events k = Contains events (Came k.number k.packet)

-- a number came in one of these events, or a refusal of it was sent
abbrev pub IsHeard : List ReorderEvent → ℕ → Type 0
IsHeard events number = ((packet : List ℕ) × Contains events (Came number packet)) ⊎ Contains events (Refused number)
