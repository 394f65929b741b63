-- A spool whose payloads stay on the device, and its relation to the spool with bytes (docs/reference/DEFINITIONS.md, "Keeping").
use Rattle.std.specs.Prelude.{◌≡◌, ◌⊎◌, ℕ, ◌+◌, ◌<◌, ◌≤◌, List, All, length}
use Rattle.rly_core.specs.declared.params.Geometry.{Geometry}
use Rattle.rly_disk.specs.DiskModel.{DiskState}
use Rattle.rly_machine.specs.Map.{map_command, map_state, payload_of, payloads_of}
use Rattle.rly_machine.specs.State.{State}
use Rattle.rly_machine.specs.declared.command.Command.{Command}
use Rattle.rly_segment_checkpoint.specs.Stored.{state_in, stored_length}
use Rattle.rly_segment_checkpoint.specs.declared.stored.Stored.{Stored}
use Rattle.rly_segment_checkpoint.specs.declared.stored.Stored.TheVariants.{Inline, Placed}
use Rattle.rly_reclaim.specs.Places.{live_by_segment}
use Rattle.rly_reclaim.specs.LiveRoom.{inline_bytes}
use Rattle.rly_reclaim.specs.SegmentChoice.{MayOpen}
use Rattle.rly_segment.specs.Heads.{segment_end, segment_place}
use Rattle.rly_journal_relocate.specs.Relocation.{LiesThere}

-- no byte of a payload lies between two offsets
abbrev pub LiesClear : ℕ → ℕ → Stored → Type 0
LiesClear from to (Inline payload) = Unit {0}
LiesClear from to (Placed place) = (place.start + place.length ≤ from) ⊎ (to ≤ place.start)

-- a payload has no bytes, or its device address lies between two offsets
abbrev pub LiesBetween : ℕ → ℕ → Stored → Type 0
LiesBetween from to (Inline payload) = length payload ≡ 0
LiesBetween from to (Placed place) = (1 ≤ place.length) × (from ≤ place.start) × (place.start + place.length ≤ to)

-- a spool whose payloads stay on the device, with the current segment used up to an offset
pub record IsIndex (g : Geometry) (segment used : ℕ) (s : State Stored) : Type 0 where
  -- each payload by device address has bytes, and lies wholly in one segment
  pub there : All (LiesThere g) (payloads_of s)
  -- none lies in the unused part of the current segment
  pub clear : All (LiesClear used (segment_end g segment)) (payloads_of s)
  -- none with bytes is inline
  pub inline : inline_bytes s ≡ 0
  -- some other segment may be opened
  pub free : (t : ℕ) × MayOpen (live_by_segment g s) segment t

-- a command, with its payload, whose record lies in the current segment between two offsets
pub record IsBrought (g : Geometry) (segment used next : ℕ) (command : Command Stored) : Type 0 where
  pub there : segment < g.segments
  pub from : segment_place g segment ≤ used
  pub on : used ≤ next
  pub to : next ≤ segment_end g segment
  pub lies : All (LiesBetween used next) (payload_of command)

-- a spool of device addresses and one with bytes differ only in their payloads, which have equal lengths
abbrev pub IsAlike : State Stored → State (List ℕ) → Type 0
IsAlike s t = map_state stored_length s ≡ map_state length t

-- and so does a command
abbrev pub IsCommandAlike : Command Stored → Command (List ℕ) → Type 0
IsCommandAlike placed command = map_command stored_length placed ≡ map_command length command

-- the spool with bytes that a spool of device addresses recovers to on a disk: on an honest one its payloads are the
-- bytes that a read returns
pub record StandsForBytes (disk : DiskState) (s : State Stored) (t : State (List ℕ)) : Type 0 where
  pub alike : IsAlike s t
  pub bytes : disk.honest → state_in disk.seen s ≡ t
