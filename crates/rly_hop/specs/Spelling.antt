-- The encoding of a message as one datagram (docs/PROTOCOL.md, "Messages").
use Rattle.std.specs.Prelude.{ℕ, zero, suc, ◌+◌, ◌^◌, ◌<◌, ◌≤◌, Bool, ◌||◌, ◌==◌, nat_lt, nat_le, min}
use Rattle.std.specs.Prelude.{Option, Some, None, List, [], ◌∷◌, ◌++◌, length}
use Rattle.byteorder.specs.Endian.{big_bytes}
use Rattle.rly_core.specs.Bounds.{IsIn}
use Rattle.rly_core.specs.declared.refusal.Refusal.{Refusal}
use Rattle.rly_core.specs.declared.refusal.Refusal.TheVariants as refusal
use Rattle.rly_hop.specs.declared.message.StationId.{StationId}
use Rattle.rly_hop.specs.declared.message.Message.{Message}
use Rattle.rly_hop.specs.declared.message.Message.TheVariants.{Data, Custody, Refused, Heard}
use Rattle.rly_hop.specs.Rows.{first_row}

-- the header of every message: the protocol's two bytes, version 1, its kind, the source and destination stations
abbrev pub header : ℕ → StationId → StationId → List ℕ
header kind from to = 0x52 ∷ 0x4c ∷ 1 ∷ kind ∷ big_bytes 2 from.0 ++ big_bytes 2 to.0

-- the bytes of a message; a Data with a limit is of a kind of its own
unfoldable pub spelling : Message (List ℕ) → List ℕ
spelling (Data from to number zero payload) =
    header 1 from to ++ big_bytes 8 number ++ big_bytes 2 (length payload) ++ payload
spelling (Data from to number (suc limit) payload) =
    header 4 from to ++ big_bytes 8 number ++ big_bytes 5 (suc limit) ++ big_bytes 2 (length payload) ++ payload
spelling (Custody from to last) = header 2 from to ++ big_bytes 8 last
spelling (Refused from to number told) = header 3 from to ++ big_bytes 8 number ++ told ∷ []
spelling (Heard from to last bits) = header 5 from to ++ big_bytes 8 last ++ big_bytes 8 bits

-- a valid station number
abbrev pub IsStation : StationId → Type 0
IsStation station = IsIn 1 65535 station.0

-- the stations are valid, and each field fits its bytes
abbrev pub IsMessage : Message (List ℕ) → Type 0
IsMessage (Data from to number limit payload) =
    IsStation from × IsStation to × (number < 2 ^ 64) × (length payload ≤ 8192) × (limit < 2 ^ 40)
IsMessage (Custody from to last) = IsStation from × IsStation to × (last < 2 ^ 64)
IsMessage (Refused from to number told) = IsStation from × IsStation to × (number < 2 ^ 64) × (told < 256)
IsMessage (Heard from to last bits) = IsStation from × IsStation to × (last < 2 ^ 64) × (bits < 2 ^ 64)

-- one of two stations is 0
abbrev pub lacks_station : StationId → StationId → Bool
lacks_station from to = (from.0 == 0) || (to.0 == 0)

-- the refusal of a message that has no valid encoding
abbrev pub write_refusal : Message (List ℕ) → Option Refusal
write_refusal (Data from to number limit payload) =
    first_row (
    (lacks_station from to, Some refusal.Station)
    ∷ (nat_le (2 ^ 40) limit, Some refusal.Long)
    ∷ (nat_lt 8192 (length payload), Some refusal.Long)
    ∷ []) None
write_refusal (Custody from to last) = first_row ((lacks_station from to, Some refusal.Station) ∷ []) None
write_refusal (Refused from to number told) = first_row ((lacks_station from to, Some refusal.Station) ∷ []) None
write_refusal (Heard from to last bits) = first_row ((lacks_station from to, Some refusal.Station) ∷ []) None

-- the length of the longest message whose payload has at most this many bytes: a Data with a limit. A payload has
-- at most 8,192
abbrev pub longest_message : ℕ → ℕ
longest_message payload = 23 + min payload 8192
