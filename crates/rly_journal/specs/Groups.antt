-- The group of a round, while it is made (docs/reference/DEFINITIONS.md, "Grouping").
use Rattle.std.specs.Prelude.{◌≡◌, ℕ, ◌+◌, ◌*◌, List, [], ◌++◌, length}
use Rattle.std.specs.List.{AllByRecursion, flat_map}
use Rattle.byteorder.specs.Endian.{big_bytes}
use Rattle.rly_machine.specs.declared.command.Command.{Command}
use Rattle.rly_record.specs.Spelling.{HasRecord, IsShort, longest_record, record_of}
use Rattle.rly_journal.specs.GroupAddresses.{Commands}

-- the maximum number of bytes written after a group's gate, by the payload limit: a length in 4, a count in 2, the
-- records, and a gate
abbrev pub frame_room : ℕ → ℕ
frame_room most = 6 + 64 * longest_record most + 1

-- the records of the group, their number, one staged record that isn't part of it yet, and the payload limit
pub record GroupState : Type 0 where
  pub records : List ℕ
  pub count : ℕ
  pub staged : List ℕ
  pub most : ℕ

-- an empty group
abbrev pub empty_group : ℕ → GroupState
empty_group most = record { records = []; count = 0; staged = []; most = most }

-- a group with one more record
abbrev pub with_record : GroupState → Command (List ℕ) → GroupState
with_record group command =
    record group { records = group.records ++ record_of command; count = group.count + 1; staged = [] }

-- the body of the group as it is written: the count in two bytes, and the records
abbrev pub group_body : GroupState → List ℕ
group_body group = big_bytes 2 group.count ++ group.records

-- the offset of the next record, after the group is written at a gate
abbrev pub record_place : ℕ → GroupState → ℕ
record_place gate group = gate + 7 + length group.records

-- the group has the records of these commands, whose payloads are within its limit, and no record is staged
pub record Holds (commands : Commands) (group : GroupState) : Type 0 where
  pub have : AllByRecursion HasRecord commands
  pub short : AllByRecursion (IsShort group.most) commands
  pub records : group.records ≡ flat_map record_of commands
  pub count : group.count ≡ length commands
  pub staged : group.staged ≡ []
