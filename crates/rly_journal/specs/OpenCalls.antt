-- The device calls that open a device, and those that log commands.
use Rattle.std.specs.Prelude.{◌≡◌, ◌+◌, ℕ, Bool, true, false, List, [], ◌∷◌, ◌++◌, Some}
use Rattle.rly_disk.specs.DiskModel.{DiskState}
use Rattle.rly_core.specs.declared.params.Geometry.{Geometry}
use Rattle.rly_disk.specs.Trace.{DeviceEvent, Makes, Read, Sync}
use Rattle.rly_gate.specs.Calls.{append_calls}
use Rattle.rly_record.specs.Spelling.{body_of}
use Rattle.rly_segment.specs.Calls.{generation_reads, head_reads}
use Rattle.rly_segment.specs.Heads.{segment_place}
use Rattle.rly_journal.specs.declared.open_fault.OpenFault.{OpenFault}
use Rattle.rly_journal.specs.declared.open_fault.OpenFault.TheVariants as fault
use Rattle.rly_journal.specs.declared.tail.Tail.{Tail}
use Rattle.rly_journal.specs.Recovery.{Commands}

-- the calls that append accepted commands at a gate as one group; none for no commands
abbrev pub log_calls : ℕ → Commands → List DeviceEvent
log_calls gate [] = []
log_calls gate (command ∷ commands) = append_calls gate (body_of (command ∷ commands))

-- the lengths of a scan at opening: the geometry, the segment of the newest head, and the number of bytes in the body
-- of the head and of each group after it
pub record Scan : Type 0 where
  pub geometry : Geometry
  pub segment : ℕ
  pub head : ℕ
  pub groups : List ℕ

-- the reads of the header, of the generation of each segment, and of the newest head
abbrev pub head_scan : Geometry → ℕ → ℕ → List DeviceEvent
head_scan g segment n =
    Read 0 53 ∷ (generation_reads g g.segments ++ head_reads (segment_place g segment) (Some n))

-- the reads of a group: its gate, the length after it, and the body
abbrev pub group_scan : ℕ → ℕ → List DeviceEvent
group_scan at n = Read at 1 ∷ Read (at + 1) 4 ∷ Read (at + 5) n ∷ []

-- the reads of consecutive groups, and of the gate after them
abbrev pub groups_scan : ℕ → List ℕ → List DeviceEvent
groups_scan at [] = []
groups_scan at (n ∷ lengths) = group_scan at n ++ groups_scan (at + 5 + n) lengths

abbrev pub gate_past : ℕ → List ℕ → ℕ
gate_past at [] = at
gate_past at (n ∷ lengths) = gate_past (at + 5 + n) lengths

-- the gate after the head, and the first closed gate
abbrev pub head_gate : Scan → ℕ
head_gate x = segment_place x.geometry x.segment + 13 + x.head

abbrev pub last_gate : Scan → ℕ
last_gate x = gate_past (head_gate x) x.groups

-- the reads up to the first closed gate, and of that gate
abbrev pub scan_before : Scan → List DeviceEvent
scan_before x = head_scan x.geometry x.segment x.head ++ groups_scan (head_gate x) x.groups

abbrev pub scan_calls : Scan → List DeviceEvent
scan_calls x = scan_before x ++ Read (last_gate x) 1 ∷ []

-- the calls that open a device: a sync, and then the reads
abbrev pub open_calls : Scan → List DeviceEvent
open_calls x = Sync ∷ scan_calls x

-- the journal ends at the end of the scan
pub record EndsScan (tail : Tail) (x : Scan) : Type 0 where
  pub geometry : tail.geometry ≡ x.geometry
  pub segment : tail.segment ≡ x.segment
  pub gate : tail.gate ≡ last_gate x

-- no call of the device failed
abbrev pub open_calls_succeeded : OpenFault → Bool
open_calls_succeeded fault.OutOfMemory = true
open_calls_succeeded fault.NotADevice = true
open_calls_succeeded fault.BadGeometry = true
open_calls_succeeded (fault.Damaged place) = true
open_calls_succeeded fault.Device = false

-- an opening made its calls, and the journal ends there
abbrev pub MakesOpening : {D : Type 0} → (D → DiskState) → Tail → D → D → Type 0
MakesOpening state tail old new = (x : Scan) × EndsScan tail x × Makes state (open_calls x) true old new

-- a failed opening made the sync, and a prefix of the reads; a failed call was the last one
pub record BreaksOpening {D : Type 0} (state : D → DiskState) (told : Bool) (old new : D) : Type 0 where
  pub x : Scan
  pub front : List DeviceEvent
  pub rest : List DeviceEvent
  pub scan_is : scan_calls x ≡ front ++ rest
  pub makes : Makes state (Sync ∷ front) told old new
