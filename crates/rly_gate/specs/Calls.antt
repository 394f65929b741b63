-- The device calls that write and read groups.
use Rattle.std.specs.Prelude.{◌+◌, ℕ, Bool, true, false, List, [], ◌∷◌, ◌++◌, length, nat_le, if◌then◌else◌}
use Rattle.std.specs.Prelude.{Option, Some, None, Result, Ok, Err, Vec}
use Rattle.rly_disk.specs.Trace.{DeviceEvent, Read, Sync, Write}
use Rattle.rly_gate.specs.declared.read.GroupFault.{GroupFault}
use Rattle.rly_gate.specs.declared.read.GroupFault.TheVariants.{OutOfMemory, Damaged, Device}
use Rattle.rly_gate.specs.declared.read.ReadFault.{ReadFault}
use Rattle.rly_gate.specs.declared.read.ReadFault.TheVariants as read
use Rattle.rly_gate.specs.Group.{frame_of, open_gate}

-- the calls that make bytes durable at an offset: one write, none for no bytes, and a sync
abbrev pub settle_calls : ℕ → List ℕ → List DeviceEvent
settle_calls at [] = Sync ∷ []
settle_calls at (byte ∷ bytes) = Write at (byte ∷ bytes) ∷ Sync ∷ []

-- the calls that append a group at a closed gate: they make the frame durable after the gate, and then open the gate
abbrev pub append_calls : ℕ → List ℕ → List DeviceEvent
append_calls at body = settle_calls (at + 1) (frame_of body) ++ settle_calls at (open_gate ∷ [])

-- the read of bytes into new memory; no call if the allocation failed
abbrev pub bytes_reads : {A : Type 0} → ℕ → ℕ → Result A ReadFault → List DeviceEvent
bytes_reads place count (Ok bytes) = Read place count ∷ []
bytes_reads place count (Err read.OutOfMemory) = []
bytes_reads place count (Err read.Device) = Read place count ∷ []

-- none of these reads failed
abbrev pub reads_succeeded : {A : Type 0} → Result A ReadFault → Bool
reads_succeeded (Ok bytes) = true
reads_succeeded (Err read.OutOfMemory) = true
reads_succeeded (Err read.Device) = false

-- the read of the length after an open gate, if a length and a gate fit before the end
abbrev pub length_reads : ℕ → ℕ → List DeviceEvent
length_reads at end = if nat_le (at + 6) end then Read (at + 1) 4 ∷ [] else []

-- the reads of a group: its gate, the length if the gate is open, and then the body. A failed read is one of these
abbrev pub group_reads : {A : Type 0} → ℕ → ℕ → ℕ → Result (Option (Vec ℕ A)) GroupFault → List DeviceEvent
group_reads at end n (Ok None) = Read at 1 ∷ []
group_reads at end n (Ok (Some body)) = Read at 1 ∷ Read (at + 1) 4 ∷ Read (at + 5) (length body.items) ∷ []
group_reads at end n (Err Damaged) = Read at 1 ∷ length_reads at end
group_reads at end n (Err OutOfMemory) = Read at 1 ∷ Read (at + 1) 4 ∷ []
group_reads at end n (Err Device) = Read at 1 ∷ Read (at + 1) 4 ∷ Read (at + 5) n ∷ []

-- no read of the group failed
abbrev pub group_reads_succeeded : {A : Type 0} → Result A GroupFault → Bool
group_reads_succeeded (Ok found) = true
group_reads_succeeded (Err Damaged) = true
group_reads_succeeded (Err OutOfMemory) = true
group_reads_succeeded (Err Device) = false
