-- The state of a simulated relay in contracts, and its relation to the model.
use Rattle.std.specs.Prelude.{◌≡◌, ◌⊎◌, ℕ, true, false, List, [], ◌∷◌, Option, None}
use Rattle.rly_core.specs.declared.params.Geometry.{Geometry}
use Rattle.rly_disk.specs.DiskModel.{DiskState}
use Rattle.rly_disk.specs.FaultDisk.{inner_of}
use Rattle.rly_disk.specs.MemDisk.{IsLeft, mem_state}
use Rattle.rly_disk.specs.declared.mem.MemDisk.{MemDisk}
use Rattle.rly_disk.specs.declared.mem.Torn.{Torn}
use Rattle.rly_segment.specs.Formatted.{IsFormatted}
use Rattle.rly_world.specs.RelaySteps.{Crash, Event, FailedOpening, Opening, Run}
use Rattle.rly_world.specs.RelayWorld.{Batch, Device, IsImageOf, SeatView, World, new_world, seen_of, state_from}
use Rattle.rly_world_relay.specs.declared.spool.Spool.{Spool}
use Rattle.rly_world_relay.specs.declared.spool.Spool.TheVariants.{Opened, Shut}

-- its seats, its submission queue, the kept batch, and its journal, or its disk while it isn't open
pub record RelayState : Type 0 where
  pub seats : List SeatView
  pub line : List Batch
  pub kept : Option Batch
  pub spool : Spool

-- the disk in it
abbrev pub disk_in : Spool → MemDisk
disk_in (Shut disk) = disk
disk_in (Opened journal) = inner_of journal.disk

-- the device of the model is a disk: it reads the same bytes, and the disk has no crash image that the model's device
-- doesn't have
pub record IsDeviceOf (disk : DiskState) (device : Device) : Type 0 where
  pub seen : disk.seen ≡ seen_of device
  pub images : (image : List ℕ) → disk.images image → IsImageOf device image

-- the journal of the model, or its disk: if the journal isn't broken its state is that after all accepted commands
abbrev pub IsSpoolOf : Spool → World → Type 0
IsSpoolOf (Shut disk) w = (w.is_open ≡ false) × (w.is_broken ≡ false)
IsSpoolOf (Opened journal) w = (w.is_open ≡ true) × (w.is_broken ≡ journal.broken) × (w.position ≡ journal.position)
    × (journal.broken ≡ false → journal.state ≡ state_from w.params w.accepted)

-- events lead to this model state from a formatted device with no write pending
pub record IsReached (w : World) : Type 0 where
  pub geometry : Geometry
  pub seats : ℕ
  pub bytes : List ℕ
  pub events : List Event
  pub formatted : IsFormatted geometry bytes
  pub run : Run (new_world geometry.params seats bytes) events w

-- the model state of a relay: reached by events, with the relay's seats, submission queue, journal and disk, and no
-- current round
pub record Shows (relay : RelayState) (w : World) : Type 0 where
  pub reached : IsReached w
  pub seats : w.seats ≡ relay.seats
  pub line : w.line ≡ relay.line
  pub kept : w.kept ≡ relay.kept
  pub round : w.round ≡ None
  pub device : IsDeviceOf (mem_state (disk_in relay.spool)) w.device
  pub spool : IsSpoolOf relay.spool w

-- such events lead from the model state of a relay to that of another
pub record Leads (Are : List Event → Type 0) (w : World) (new : RelayState) : Type 0 where
  pub events : List Event
  pub are : Are events
  pub next : World
  pub run : Run w events next
  pub shows : Shows new next

-- from every model state of the relay before, such events lead to one of it now
abbrev pub Happened : (List Event → Type 0) → RelayState → RelayState → Type 0
Happened Are old new = (w : World) → Shows old w → Leads Are w new

-- one event
abbrev pub IsOnly : Event → List Event → Type 0
IsOnly event events = events ≡ event ∷ []

-- a crash with the image that such a stop leaves on a disk
abbrev pub IsCrash : Torn → MemDisk → List Event → Type 0
IsCrash torn disk events = (image : List ℕ) × IsLeft torn disk image × IsOnly (Crash image) events

-- an opening, which failed if the relay isn't open after it
abbrev pub IsOpening : Spool → List Event → Type 0
IsOpening (Opened journal) events = IsOnly (Opening journal.state) events
IsOpening (Shut disk) events = IsOnly (FailedOpening true) events ⊎ IsOnly (FailedOpening false) events
