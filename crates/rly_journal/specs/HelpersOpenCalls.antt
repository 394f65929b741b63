-- Helpers: the reading of a device. No public contract cites them; `Calls` defines the calls of an opening.
use Rattle.std.specs.Prelude.{true}
use Rattle.rly_disk.specs.DiskModel.{DiskState}
use Rattle.rly_disk.specs.Trace.{Makes, MakesFront}
use Rattle.rly_journal.specs.declared.open_fault.OpenFault.{OpenFault}
use Rattle.rly_journal.specs.declared.tail.Tail.{Tail}
use Rattle.rly_journal.specs.OpenCalls.{EndsScan, Scan, scan_calls, open_calls_succeeded}

-- all was read
abbrev pub IsRead : {D : Type 0} → (D → DiskState) → Tail → D → D → Type 0
IsRead state tail old new = (x : Scan) × EndsScan tail x × Makes state (scan_calls x) true old new

abbrev pub IsCutShort : {D : Type 0} → (D → DiskState) → OpenFault → D → D → Type 0
IsCutShort state why old new = (x : Scan) × MakesFront state (scan_calls x) (open_calls_succeeded why) old new
