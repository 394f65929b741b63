-- Collection: the spool for the next head, and the reads that it takes (docs/reference/DEFINITIONS.md, "Drawing").
use Rattle.std.specs.Prelude.{◌≡◌, ℕ, ◌==◌, if◌then◌else◌, true, false, List}
use Rattle.std.specs.Prelude.{[], ◌∷◌, length, replicate, Result, Ok, Err}
use Rattle.std.specs.List.{flat_map}
use Rattle.rly_core.specs.declared.params.Geometry.{Geometry}
use Rattle.rly_disk.specs.DiskModel.{DiskState}
use Rattle.rly_disk.specs.Trace.{DeviceEvent, Makes, MakesFront, Read}
use Rattle.rly_machine.specs.Map.{map_state, payloads_of}
use Rattle.rly_machine.specs.State.{State}
use Rattle.rly_segment_checkpoint.specs.Stored.{payload_in}
use Rattle.rly_segment_checkpoint.specs.declared.stored.DeviceAddress.{DeviceAddress}
use Rattle.rly_segment_checkpoint.specs.declared.stored.Stored.{Stored}
use Rattle.rly_segment_checkpoint.specs.declared.stored.Stored.TheVariants.{Inline, Placed}
use Rattle.rly_reclaim.specs.Places.{segment_of}
use Rattle.rly_journal_relocate.specs.declared.fault.CollectionFault.{CollectionFault}
use Rattle.rly_journal_relocate.specs.declared.fault.CollectionFault.TheVariants as fault

-- the bytes of an image at a device address
abbrev pub bytes_at : List ℕ → DeviceAddress → List ℕ
bytes_at image place = payload_in image (Placed place)

-- a payload with zeros for its inline bytes
abbrev pub blank_payload : Stored → Stored
blank_payload (Inline payload) = Inline (replicate (length payload) 0)
blank_payload (Placed place) = Placed place

abbrev pub blank_state : State Stored → State Stored
blank_state s = map_state blank_payload s

-- two spools are the same except for inline bytes
abbrev pub IsSameButForBytes : State Stored → State Stored → Type 0
IsSameButForBytes s t = blank_state s ≡ blank_state t

-- the read of a payload, if it lies in the victim
abbrev pub victim_payload_reads : Geometry → ℕ → Stored → List DeviceEvent
victim_payload_reads g victim (Inline payload) = []
victim_payload_reads g victim (Placed place) = if segment_of g place.start == victim then Read place.start place.length
    ∷ [] else []

-- the reads of all payloads of the victim, hop by hop, those in flight first
abbrev pub victim_reads : Geometry → ℕ → State Stored → List DeviceEvent
victim_reads g victim s = flat_map (victim_payload_reads g victim) (payloads_of s)

-- reads were made: all of them if a copy was returned. A failed read was the last one; if memory allocation failed, a
-- prefix of them was made
abbrev pub IsCollection : {D A : Type 0} → (D → DiskState) → List DeviceEvent → Result A CollectionFault → D → D
    → Type 0
IsCollection state calls (Ok copy) old new = Makes state calls true old new
IsCollection state calls (Err fault.OutOfMemory) old new = MakesFront state calls true old new
IsCollection state calls (Err fault.Device) old new = Makes state calls false old new
