-- The state in contracts of a disk that fails at a chosen call.
use Rattle.std.specs.Prelude.{◌==◌, ◌&&◌, ◌+◌, ℕ, Bool, not, nat_le}
use Rattle.rly_disk.specs.DiskModel.{DiskState}
use Rattle.rly_disk.specs.declared.fault_disk.After.{After}
use Rattle.rly_disk.specs.declared.fault_disk.After.TheVariants.{GoesOn, Stops}
use Rattle.rly_disk.specs.declared.fault_disk.FaultDisk.{FaultDisk}

abbrev pub inner_of : {D : Type 0} → FaultDisk D → D
inner_of disk = disk.inner

-- the number of the call that fails, the number of bytes that a failing write writes, and the behaviour after it
abbrev pub fault_plan : {D : Type 0} → FaultDisk D → ℕ × ℕ × After
fault_plan disk = (disk.at, disk.torn, disk.after)

abbrev pub torn_of : {D : Type 0} → FaultDisk D → ℕ
torn_of disk = disk.torn

-- the call of this number was chosen to fail
abbrev pub is_failing_call : ℕ → After → ℕ → Bool
is_failing_call at GoesOn number = number == at
is_failing_call at Stops number = not (at == 0) && nat_le at number

-- the next call was chosen to fail
abbrev pub fails_next : {D : Type 0} → FaultDisk D → Bool
fails_next disk = is_failing_call disk.at disk.after (disk.counts.calls + 1)

-- its bytes and crash images are those of the disk inside, and its counters its own
abbrev pub fault_state : {D : Type 0} → (D → DiskState) → FaultDisk D → DiskState
fault_state state disk = record (state disk.inner) {
  calls = disk.counts.calls;
  failures = disk.counts.failures;
  syncs = disk.counts.syncs;
  failed_reads = disk.counts.failed_reads;
}
