-- The state in contracts of a disk that records its calls.
use Rattle.std.specs.Prelude.{◌≡◌, ◌<◌, ℕ, true, false, List, ◌++◌, length, map, vec_capacity}
use Rattle.rly_disk.specs.DiskModel.{DiskState}
use Rattle.rly_disk.specs.Trace.{DeviceEvent, FailedRead, FailedSync, FailedWrite, Leads, Read, Sync, Write}
use Rattle.rly_disk.specs.declared.traced_disk.DiskCall.TheVariants as call
use Rattle.rly_disk.specs.declared.traced_disk.TracedCall.{TracedCall}
use Rattle.rly_disk.specs.declared.traced_disk.TracedDisk.{TracedDisk}

abbrev pub inside : {D : Type 0} → TracedDisk D → D
inside disk = disk.inner

abbrev pub traced_calls : {D : Type 0} → TracedDisk D → List TracedCall
traced_calls disk = disk.told.items

-- the maximum number of calls that it records
abbrev pub most_of : {D : Type 0} → TracedDisk D → ℕ
most_of disk = vec_capacity disk.told

abbrev pub watched_state : {D : Type 0} → (D → DiskState) → TracedDisk D → DiskState
watched_state state disk = state disk.inner

-- the record of an event: its kind, its range and whether it failed
abbrev pub traced_call_of : DeviceEvent → TracedCall
traced_call_of (Read place count) = record { call = call.Read place count; failed = false }
traced_call_of (FailedRead place count) = record { call = call.Read place count; failed = true }
traced_call_of (Write place bytes) = record { call = call.Write place (length bytes); failed = false }
traced_call_of (FailedWrite place bytes left) = record { call = call.Write place (length bytes); failed = true }
traced_call_of Sync = record { call = call.Sync; failed = false }
traced_call_of FailedSync = record { call = call.Sync; failed = true }

-- if the list has room, the new records are the events that led from one state to the other
abbrev pub Traces : {D : Type 0} → (D → DiskState) → TracedDisk D → TracedDisk D → Type 0
Traces state old new = length (traced_calls old) < most_of old
    → (events : List DeviceEvent) × Leads events (state (inside old)) (state (inside new))
    × (traced_calls new ≡ traced_calls old ++ map traced_call_of events)
