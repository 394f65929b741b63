-- Helpers: the proof that `MemDisk` is a `Disk`. They claim nothing beyond the contract of `Disk`.
use Rattle.std.specs.Prelude.{◌≤◌, ℕ, List, refl}
use Rattle.rly_disk.specs.DiskModel.{Consistent}
use Rattle.rly_disk.specs.HelpersRecord.{seen_is_image, counts_now, only_now}
use Rattle.rly_disk.specs.MemDisk.{recorded_state, mem_state}
use Rattle.rly_disk.specs.declared.counts.Counts.{Counts}
use Rattle.rly_disk.specs.declared.record.Event.{Event}
use Rattle.rly_disk.specs.declared.mem.MemDisk.{MemDisk}

pub consistent_of : (events : List Event) (bytes : List ℕ) (counts : Counts)
    → Consistent (recorded_state events bytes counts)
consistent_of events bytes counts = record {
  seen_size = refl;
  image_size = λ c image. image.same_length;
  seen_is_image = seen_is_image events bytes;
  counts_now = counts_now events bytes;
  only_now = only_now events bytes;
}

pub mem_consistent : (disk : MemDisk) → Consistent (mem_state disk)
mem_consistent disk = consistent_of disk.events.items disk.bytes.items disk.counts

pub mem_calls_lead : (disk : MemDisk)
    → (disk.counts.failures ≤ disk.counts.calls) × (disk.counts.syncs ≤ disk.counts.calls)
    × (disk.counts.failed_reads ≤ disk.counts.failures)
mem_calls_lead disk =
    (disk.counts.failures_are_calls, disk.counts.syncs_are_calls, disk.counts.failed_reads_are_failures)
