-- The reorder buffer: its content, the next number in order, and the bits of a Heard (docs/PROTOCOL.md, "What comes
-- ahead of a gap").
use Rattle.std.specs.Prelude.{ℕ, zero, suc, ◌+◌, ◌-◌, ◌%◌, ◌^◌, ◌==◌, min, nat_lt, nat_le, Bool, true, false, ◌&&◌}
use Rattle.std.specs.Prelude.{◌||◌, if◌then◌else◌, Option, Some, None, is_some, List, length, replicate, slice_set}
use Rattle.std.specs.Prelude.{slice_get, slice_index, option_and_then}
use Rattle.std.specs.Option.{option_map_or}
use Rattle.rly_hop.specs.HeardBits.{with_mark}

-- a stored Data: its number, and its packet
pub record BufferedData : Type 0 where
  pub number : ℕ
  pub packet : List ℕ

abbrev pub buffered_data : ℕ → List ℕ → BufferedData
buffered_data number packet = record { number = number; packet = packet }

-- a slot: the number of bytes that it holds, and its content
pub record PlaceView : Type 0 where
  pub room : ℕ
  pub held : Option BufferedData

-- The greatest number that custody was sent for; the next number in order: the first that wasn't delivered since
-- that custody; the maximum length of a stored packet in bytes; the slots with their content; of each slot the number
-- that was refused last, or 0; and whether a Data came since custody was last sent.
pub record ReorderView : Type 0 where
  pub covered : ℕ
  pub next : ℕ
  pub longest : ℕ
  pub places : List (Option BufferedData)
  pub refused : List ℕ
  pub came : Bool

-- the number after this one, up to the last of 64 bits
abbrev pub next_number : ℕ → ℕ
next_number number = min (number + 1) (2 ^ 64 - 1)

-- an empty buffer, with this many slots for packets of at most this many bytes
abbrev pub new_reorder : ℕ → ℕ → ReorderView
new_reorder places longest = record {
  covered = 0;
  next = 1;
  longest = longest;
  places = replicate places None;
  refused = replicate 64 0;
  came = false;
}

-- A number is ahead of a gap: more than one above those that custody was sent for, and within a window of them. The
-- last number of 64 bits never is.
abbrev pub is_past_gap : ℕ → ℕ → Bool
is_past_gap covered number = nat_le 2 (number - covered) && nat_le (number - covered) 64 && nat_lt number (2 ^ 64 - 1)

-- a number's slot
abbrev pub slot_of : ℕ → ℕ
slot_of number = number % 64

-- the slots after a Data was received: it is stored if it is ahead of a gap and not too long
abbrev pub places_with : ReorderView → ℕ → List ℕ → List (Option BufferedData)
places_with e number packet =
    if is_past_gap e.covered number && nat_le (length packet) e.longest
    then slice_set e.places (slot_of number) (Some (buffered_data number packet)) else e.places

-- after a Data was received: if it was the next in order, the following number is
abbrev pub after_data : ReorderView → ℕ → List ℕ → ReorderView
after_data e number packet = record e {
  next = if number == e.next then next_number number else e.next;
  places = places_with e number packet;
  came = true;
}

-- after a refusal of this number was sent
abbrev pub after_refusal : ReorderView → ℕ → ReorderView
after_refusal e number = record e { refused = slice_set e.refused (slot_of number) number }

-- the stored Data has this number, and fits into this many bytes
abbrev pub is_for : ℕ → ℕ → BufferedData → Bool
is_for number room k = (k.number == number) && nat_le (length k.packet) room

abbrev pub if_for : ℕ → ℕ → BufferedData → Option BufferedData
if_for number room k = if is_for number room k then Some k else None

-- the content of a slot, if there is any
abbrev pub buffered_at : List (Option BufferedData) → ℕ → Option BufferedData
buffered_at places place = option_and_then (λ k. k) (slice_get places place)

-- the stored Data that is next in order, if there is one that fits into this many bytes
abbrev pub due_data : ReorderView → ℕ → Option BufferedData
due_data e room = option_and_then (if_for e.next room) (buffered_at e.places (slot_of e.next))

-- after a stored Data was delivered, if one was due: the following number is the next in order
abbrev pub after_giving : ReorderView → ℕ → ReorderView
after_giving e room = if is_some (due_data e room) then record e { next = next_number e.next } else e

-- after custody of all numbers up to this one was sent: if it is more than before, the number after it is the next
-- in order
abbrev pub reorder_after_custody : ReorderView → ℕ → ReorderView
reorder_after_custody e last = if nat_lt e.covered last then record e { covered = last; next = next_number last } else e

-- a number has its Data in a slot
abbrev pub is_stored : ReorderView → ℕ → Bool
is_stored e number = option_map_or (λ k. k.number == number) (buffered_at e.places (slot_of number)) false

-- the last refusal in a number's slot was of this number
abbrev pub is_refused : ReorderView → ℕ → Bool
is_refused e number = slice_index e.refused (slot_of number) == number

-- whether a Heard marks a place: the number there is stored, or was refused
abbrev pub is_heard : ReorderView → ℕ → Bool
is_heard e place = nat_lt (e.covered + place + 1) (2 ^ 64)
    && (is_stored e (e.covered + place + 1) || is_refused e (e.covered + place + 1))

-- the bits of the first places
unfoldable pub heard_from : ReorderView → ℕ → ℕ
heard_from e zero = 0
heard_from e (suc place) = if is_heard e place then with_mark (heard_from e place) place else heard_from e place

-- the bits of a Heard: of the 64 numbers after those that custody was sent for
abbrev pub heard_bits : ReorderView → ℕ
heard_bits e = heard_from e 64

-- a Heard is due: a Data came since custody was last sent, and a number is marked
abbrev pub is_heard_due : ReorderView → Bool
is_heard_due e = e.came && nat_lt 0 (heard_bits e)

-- a Heard was sent, or none was due
abbrev pub after_heard : ReorderView → ReorderView
after_heard e = record e { came = false }
