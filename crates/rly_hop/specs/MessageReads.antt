-- Decoding of a datagram: its faults, in the order of the checks, and its fields at their offsets
-- (docs/PROTOCOL.md, "Messages").
use Rattle.std.specs.Prelude.{ℕ, ◌+◌, Bool, ◌&&◌, ◌||◌, not, ◌==◌, nat_lt, if◌then◌else◌, Option, Some, None}
use Rattle.std.specs.Prelude.{Result, Ok, Err, List, [], ◌∷◌, ◌++◌, length, drop, slice_index}
use Rattle.byteorder.specs.Endian.{big_number}
use Rattle.rly_core.specs.declared.refusal.Refusal.{Refusal}
use Rattle.rly_core.specs.declared.refusal.Refusal.TheVariants.{Short, Long, Magic, Version, Kind, Station}
use Rattle.rly_hop.specs.declared.message.StationId.{StationId}
use Rattle.rly_hop.specs.declared.message.Message.{Message}
use Rattle.rly_hop.specs.declared.message.Message.TheVariants.{Data, Custody, Refused, Heard}
use Rattle.rly_hop.specs.Rows.{first_row}

-- the number of this width in bytes, at an offset
abbrev pub field_at : ℕ → ℕ → List ℕ → ℕ
field_at width place bytes = big_number width (drop place bytes)

-- the byte of the message's kind
abbrev pub kind_of : List ℕ → ℕ
kind_of bytes = slice_index bytes 3

-- whether a kind is known
abbrev pub is_known_kind : ℕ → Bool
is_known_kind kind = (kind == 1) || (kind == 2) || (kind == 3) || (kind == 4) || (kind == 5)

-- the minimum length of a message of this kind
abbrev pub fixed_length : ℕ → ℕ
fixed_length kind =
    if kind == 1 then 18 else if kind == 2 then 16 else if kind == 3 then 17 else if kind == 4 then 23 else 24

-- the length of the payload, as a message of this kind states it
abbrev pub payload_length : ℕ → List ℕ → ℕ
payload_length kind bytes =
    if kind == 1 then field_at 2 16 bytes else if kind == 4 then field_at 2 21 bytes else 0

-- the length of a message of this kind that starts with these bytes
abbrev pub whole_length : ℕ → List ℕ → ℕ
whole_length kind bytes = fixed_length kind + payload_length kind bytes

-- the checks of the header's eight bytes
abbrev pub header_faults : List ℕ → List (Bool × Option Refusal)
header_faults bytes =
    (nat_lt (length bytes) 8, Some Short)
    ∷ (not (field_at 2 0 bytes == 0x524c), Some Magic)
    ∷ (not (slice_index bytes 2 == 1), Some Version)
    ∷ (not (is_known_kind (kind_of bytes)), Some Kind)
    ∷ ((field_at 2 4 bytes == 0) || (field_at 2 6 bytes == 0), Some Station)
    ∷ []

-- the checks of the stated length, and of the limit of a Data that has one
abbrev pub length_faults : List ℕ → List (Bool × Option Refusal)
length_faults bytes =
    (nat_lt (length bytes) (fixed_length (kind_of bytes)), Some Short)
    ∷ ((kind_of bytes == 4) && (field_at 5 16 bytes == 0), Some Kind)
    ∷ (nat_lt 8192 (payload_length (kind_of bytes) bytes), Some Long)
    ∷ []

-- the checks of the datagram's length
abbrev pub end_faults : List ℕ → List (Bool × Option Refusal)
end_faults bytes =
    (nat_lt (length bytes) (whole_length (kind_of bytes) bytes), Some Short)
    ∷ (nat_lt (whole_length (kind_of bytes) bytes) (length bytes), Some Long)
    ∷ []

-- the first fault of a datagram, if it has one
unfoldable pub first_fault : List ℕ → Option Refusal
first_fault bytes = first_row (header_faults bytes ++ length_faults bytes ++ end_faults bytes) None

-- the station whose number is at an offset
abbrev pub station_at : ℕ → List ℕ → StationId
station_at place bytes = record { 0 = field_at 2 place bytes }

-- the message of a kind, with its fields read at their offsets
abbrev pub message_at : ℕ → List ℕ → Message (List ℕ)
message_at kind bytes =
    if kind == 1 then Data (station_at 4 bytes) (station_at 6 bytes) (field_at 8 8 bytes) 0 (drop 18 bytes)
    else if kind == 4
    then Data (station_at 4 bytes) (station_at 6 bytes) (field_at 8 8 bytes) (field_at 5 16 bytes) (drop 23 bytes)
    else if kind == 2 then Custody (station_at 4 bytes) (station_at 6 bytes) (field_at 8 8 bytes)
    else if kind == 3
    then Refused (station_at 4 bytes) (station_at 6 bytes) (field_at 8 8 bytes) (slice_index bytes 16)
    else Heard (station_at 4 bytes) (station_at 6 bytes) (field_at 8 8 bytes) (field_at 8 16 bytes)

-- the value, or the fault if there is one
abbrev pub found_unless : {A : Type 0} → Option Refusal → A → Result A Refusal
found_unless None found = Ok found
found_unless (Some fault) found = Err fault

-- the decoding of a datagram: its first fault, or else the message in it
unfoldable pub message_or_fault : List ℕ → Result (Message (List ℕ)) Refusal
message_or_fault bytes = found_unless (first_fault bytes) (message_at (kind_of bytes) bytes)
