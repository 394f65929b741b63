-- The state in contracts of a disk in memory.
use Rattle.std.specs.Prelude.{◌≡◌, ℕ, List, length, ⊤}
use Rattle.rly_disk.specs.DiskModel.{DiskState}
use Rattle.rly_disk.specs.Record.{events_since_sync, bytes_before, before_but, IsImage, WasImage, IsFilled}
use Rattle.rly_disk.specs.declared.counts.Counts.{Counts}
use Rattle.rly_disk.specs.declared.record.Event.{Event}
use Rattle.rly_disk.specs.declared.mem.MemDisk.{MemDisk}
use Rattle.rly_disk.specs.declared.mem.Torn.{Torn}
use Rattle.rly_disk.specs.declared.mem.Torn.TheVariants.{AsRead, AsSynced, Fill, Split}

-- the disk after these events, if a read returns these bytes
abbrev pub recorded_state : List Event → List ℕ → Counts → DiskState
recorded_state events bytes counts = record {
  size = length bytes;
  seen = bytes;
  images = IsImage events bytes;
  moment = length events;
  since = WasImage events bytes;
  honest = ⊤;
  calls = counts.calls;
  failures = counts.failures;
  syncs = counts.syncs;
  failed_reads = counts.failed_reads;
}

abbrev pub mem_state : MemDisk → DiskState
mem_state disk = recorded_state disk.events.items disk.bytes.items disk.counts

-- the bytes that a read returned at the last sync
abbrev pub synced_bytes : MemDisk → List ℕ
synced_bytes disk = bytes_before (events_since_sync disk.events.items) disk.bytes.items

-- these are the bytes that such a crash leaves
abbrev pub IsLeft : Torn → MemDisk → List ℕ → Type 0
IsLeft AsRead disk image = image ≡ disk.bytes.items
IsLeft AsSynced disk image = image ≡ synced_bytes disk
IsLeft (Fill byte) disk image = IsFilled (events_since_sync disk.events.items) byte disk.bytes.items image
IsLeft (Split kept) disk image = image ≡ before_but kept (events_since_sync disk.events.items) disk.bytes.items
