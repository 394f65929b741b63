-- The encoding of records and bodies (docs/FORMATS.md, "Bodies and records"). It is a function, so each command has one
-- record, and each list of commands one body.
use Rattle.std.specs.Prelude.{ℕ, zero, suc, ◌+◌, ◌*◌, ◌^◌, ◌<◌, ◌≤◌, ⊤, List, ◌∷◌, ◌++◌, length, sum_by}
use Rattle.std.specs.List.{AllByRecursion, flat_map}
use Rattle.byteorder.specs.Endian.{big_bytes}
use Rattle.rly_core.specs.Bounds.{IsIn}
use Rattle.rly_core.specs.declared.ids.HopId.{HopId}
use Rattle.rly_core.specs.declared.ids.PeerId.{PeerId}
use Rattle.rly_machine.specs.declared.command.Command.{Command}
use Rattle.rly_machine.specs.declared.command.Command.TheVariants.{Take, Pick, Release}

-- the record of a Take without a limit
unfoldable pub plain_take_of : PeerId → ℕ → HopId → ℕ → List ℕ → List ℕ
plain_take_of peer number hop stamp payload =
    1 ∷ big_bytes 2 peer.0 ++ big_bytes 8 number ++ big_bytes 2 hop.0 ++ big_bytes 8 stamp
    ++ big_bytes 2 (length payload) ++ payload

-- the record of a Take with a limit
unfoldable pub limited_take_of : PeerId → ℕ → HopId → ℕ → ℕ → List ℕ → List ℕ
limited_take_of peer number hop stamp limit payload =
    5 ∷ big_bytes 1 peer.0 ++ big_bytes 6 number ++ big_bytes 1 hop.0 ++ big_bytes 7 stamp ++ big_bytes 5 limit
    ++ big_bytes 2 (length payload) ++ payload

-- the record of a command: its kind in one byte, then its fields, each number big-endian
unfoldable pub record_of : Command (List ℕ) → List ℕ
record_of (Take peer number hop stamp zero payload) = plain_take_of peer number hop stamp payload
record_of (Take peer number hop stamp (suc limit) payload) = limited_take_of peer number hop stamp (suc limit) payload
record_of (Pick hop now) = 2 ∷ big_bytes 2 hop.0 ++ big_bytes 8 now
record_of (Release hop number) = 3 ∷ big_bytes 2 hop.0 ++ big_bytes 8 number

-- the number of bytes of a command's record, over any payload that has a length
abbrev pub record_length : {P : Type 0} → (P → ℕ) → Command P → ℕ
record_length len (Take peer number hop stamp limit payload) = 23 + len payload
record_length len (Pick hop now) = 11
record_length len (Release hop number) = 11

-- the payload, if the command has one, is at most this long
abbrev pub IsShort : ℕ → Command (List ℕ) → Type 0
IsShort most (Take peer number hop stamp limit payload) = length payload ≤ most
IsShort most (Pick hop now) = ⊤
IsShort most (Release hop number) = ⊤

-- the maximum length of a record, and of a body, by the maximum length of a payload
abbrev pub longest_record : ℕ → ℕ
longest_record most = 23 + most

abbrev pub longest_body : ℕ → ℕ
longest_body most = 2 + 64 * longest_record most

-- the command has a payload of at least one byte
abbrev pub CarriesBytes : Command (List ℕ) → Type 0
CarriesBytes (Take peer number hop stamp limit payload) = 0 < length payload
CarriesBytes (Pick hop now) = ⊥
CarriesBytes (Release hop number) = ⊥

-- the numbers of a Take with a limit fit their fields: peer, number, hop, stamp and limit
pub record FitsLimited (sender : PeerId) (custody : ℕ) (target : HopId) (moment age : ℕ) : Type 0 where
  pub peer : sender.0 < 2 ^ 8
  pub number : custody < 2 ^ 48
  pub hop : target.0 < 2 ^ 8
  pub stamp : moment < 2 ^ 56
  pub limit : age < 2 ^ 40

-- the command has a record: its payload has at most 8,192 bytes, and each of its numbers fits its field
abbrev pub HasRecord : Command (List ℕ) → Type 0
HasRecord (Take peer number hop stamp limit payload) =
    (peer.0 < 2 ^ 16) × (number < 2 ^ 64) × (hop.0 < 2 ^ 16) × (stamp < 2 ^ 64) × (length payload ≤ 8192)
    × (0 < limit → FitsLimited peer number hop stamp limit)
HasRecord (Pick hop now) = (hop.0 < 2 ^ 16) × (now < 2 ^ 64)
HasRecord (Release hop number) = (hop.0 < 2 ^ 16) × (number < 2 ^ 64)

-- the numbers of a Take with a limit are within a spool's limits, as in each accepted Take
pub record IsLimited (sender : PeerId) (custody : ℕ) (target : HopId) (moment age : ℕ) : Type 0 where
  pub peer : IsIn 1 64 sender.0
  pub number : custody < 2 ^ 48
  pub hop : IsIn 1 64 target.0
  pub stamp : moment < 2 ^ 52
  pub limit : age < 2 ^ 40

-- the command can be recorded, as each can that a spool with this payload limit accepts: its payload is within the
-- limit, and if it has an age limit its numbers are within a spool's limits
abbrev pub IsRecordable : ℕ → Command (List ℕ) → Type 0
IsRecordable most (Take peer number hop stamp limit payload) =
    (length payload ≤ most) × (0 < limit → IsLimited peer number hop stamp limit)
IsRecordable most (Pick hop now) = ⊤
IsRecordable most (Release hop number) = ⊤

-- the body of a group: the number of records in two bytes, and the records in order
abbrev pub body_of : List (Command (List ℕ)) → List ℕ
body_of commands = big_bytes 2 (length commands) ++ flat_map record_of commands

-- the number of bytes of the commands' body, over any payload that has a length
abbrev pub body_length : {P : Type 0} → (P → ℕ) → List (Command P) → ℕ
body_length len commands = 2 + sum_by (record_length len) commands

-- the commands have a body: there are 1 to 64, and each has a record
abbrev pub HaveBody : List (Command (List ℕ)) → Type 0
HaveBody commands = IsIn 1 64 (length commands) × AllByRecursion HasRecord commands
