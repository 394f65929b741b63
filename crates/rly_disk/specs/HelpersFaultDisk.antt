-- Helpers: the proof that `FaultDisk` is a `Disk`. They claim nothing beyond the contract of `Disk`.
use Rattle.std.specs.Prelude.{◌≤◌}
use Rattle.rly_disk.specs.DiskModel.{DiskState, Consistent}
use Rattle.rly_disk.specs.FaultDisk.{fault_state}
use Rattle.rly_disk.specs.declared.fault_disk.FaultDisk.{FaultDisk}

pub fault_consistent : {D : Type 0} (state : D → DiskState) (disk : FaultDisk D)
    → Consistent (state disk.inner) → Consistent (fault_state state disk)
fault_consistent state disk facts = record {
  seen_size = facts.seen_size;
  image_size = facts.image_size;
  seen_is_image = facts.seen_is_image;
  counts_now = facts.counts_now;
  only_now = facts.only_now;
}

pub fault_calls_lead : {D : Type 0} (disk : FaultDisk D)
    → (disk.counts.failures ≤ disk.counts.calls) × (disk.counts.syncs ≤ disk.counts.calls)
    × (disk.counts.failed_reads ≤ disk.counts.failures)
fault_calls_lead disk =
    (disk.counts.failures_are_calls, disk.counts.syncs_are_calls, disk.counts.failed_reads_are_failures)
