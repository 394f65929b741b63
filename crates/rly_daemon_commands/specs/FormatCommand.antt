-- The geometry of a new device, and the check before a device is formatted.
use Rattle.std.specs.Prelude.{◌≡◌, ◌⊎◌, ℕ, ◌<◌, ◌≤◌, Bool, true, false, List, Option, Some, None}
use Rattle.rly_core.specs.declared.params.Geometry.{Geometry}
use Rattle.rly_core.specs.declared.params.Params.{Params}
use Rattle.rly_disk.specs.DiskModel.{DiskState}
use Rattle.rly_disk.specs.Trace.{Makes}
use Rattle.rly_journal.specs.declared.open_fault.OpenFault.{OpenFault}
use Rattle.rly_journal.specs.OpenCalls.{BreaksOpening, MakesOpening, open_calls_succeeded}
use Rattle.rly_journal.specs.Faults.{IsOfImage}
use Rattle.rly_journal.specs.Journal.{JournalState}
use Rattle.rly_journal.specs.Recovery.{Stands}
use Rattle.rly_machine.specs.State.{State, live_items}
use Rattle.rly_journal.specs.OpenFaults.{IsRefused}
use Rattle.rly_segment.specs.Calls.{whole_format_calls, new_head}
use Rattle.rly_segment.specs.Device.{IsLayout, device_length}
use Rattle.rly_daemon_commands.specs.FileDisk.{file_state}
use Rattle.rly_daemon_commands.specs.declared.file_disk.FileDisk.{FileDisk}
use Rattle.rly_daemon_commands.specs.declared.format_check.UseFault.{UseFault}
use Rattle.rly_daemon_commands.specs.declared.format_check.UseFault.TheVariants.{Live, Refused}
use Rattle.rly_reclaim.specs.Room.{least_length}

-- the length of its segments: the minimum, if none is given
abbrev pub wanted_length : Params → ℕ → Option ℕ → ℕ
wanted_length params segments None = least_length (record { params = params; segments = segments; length = 0 })
wanted_length params segments (Some length) = length

-- the requested geometry
abbrev pub wanted_geometry : Params → ℕ → Option ℕ → Geometry
wanted_geometry params segments length =
    record { params = params; segments = segments; length = wanted_length params segments length }

-- an image without live datagrams: one that represents a state without any, or none
abbrev pub IsFree : List ℕ → Type 0
IsFree image = ((state : State (List ℕ)) × Stands image state × (live_items state ≡ 0))
    ⊎ ((fault : OpenFault) × IsOfImage fault × IsRefused image fault)

-- an image with this many, if that is the fault
abbrev pub HoldsLive : List ℕ → UseFault → Type 0
HoldsLive image (Live count) = (0 < count) × (state : State (List ℕ)) × Stands image state × (live_items state ≡ count)
HoldsLive image (Refused refusal) = Unit {0}

-- a disk was opened as a journal without live datagrams, or refused for its bytes; no call of it failed
abbrev pub FindsNoneLive : {D : Type 0} → (D → DiskState) → D → D → Type 0
FindsNoneLive {D} state old new =
    ((journal : JournalState D) × (journal.broken ≡ false) × (live_items journal.state ≡ 0) × (journal.disk ≡ new)
    × MakesOpening state journal.tail old journal.disk)
    ⊎ ((fault : OpenFault) × IsOfImage fault × BreaksOpening state (open_calls_succeeded fault) old new)

-- A new device of a geometry was made on a file: unless that was forced the file was checked before, and no
-- datagram was live on it; each read, write and sync of a new device was made, and none failed.
pub record HasMade (geometry : Geometry) (force : Bool) : Type 0 where
  pub within : IsLayout geometry (device_length geometry)
  pub opened : FileDisk
  pub before : FileDisk
  pub looked : force ≡ false → FindsNoneLive file_state opened before
  pub ready : FileDisk
  pub same_calls : (file_state ready).calls ≡ (file_state before).calls
  pub long : device_length geometry ≤ (file_state ready).size
  pub made : FileDisk
  pub closed : Bool
  pub makes : Makes file_state (whole_format_calls geometry closed (new_head geometry)) true ready made
