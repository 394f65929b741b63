-- The device calls that open a segment, format a device, and read a header or a head.
use Rattle.std.specs.Prelude.{◌+◌, ℕ, Bool, true, false, List, [], ◌∷◌, ◌++◌, nat_le, if◌then◌else◌}
use Rattle.std.specs.Prelude.{Option, Some, None, Result, Ok, Err}
use Rattle.rly_core.specs.declared.params.Geometry.{Geometry}
use Rattle.rly_disk.specs.Trace.{DeviceEvent, Read, Sync, Write, each_below}
use Rattle.rly_gate.specs.Calls.{settle_calls}
use Rattle.rly_gate.specs.Group.{open_gate}
use Rattle.rly_machine.specs.State.{new_state}
use Rattle.rly_segment.specs.declared.formatter.FormatFault.{FormatFault}
use Rattle.rly_segment.specs.declared.formatter.FormatFault.TheVariants as format
use Rattle.rly_segment.specs.declared.generations.NewestFault.{NewestFault}
use Rattle.rly_segment.specs.declared.generations.NewestFault.TheVariants as newest
use Rattle.rly_segment.specs.declared.header.HeaderFault.{HeaderFault}
use Rattle.rly_segment.specs.declared.header.HeaderFault.TheVariants as header
use Rattle.rly_segment.specs.declared.heads.HeadFault.{HeadFault}
use Rattle.rly_segment.specs.declared.heads.HeadFault.TheVariants as head
use Rattle.rly_segment.specs.declared.opener.OpeningFault.{OpeningFault}
use Rattle.rly_segment.specs.declared.opener.OpeningFault.TheVariants as opening
use Rattle.rly_segment.specs.Device.{header_of}
use Rattle.rly_segment.specs.Heads.{head_of, segment_place}

-- the calls that close a gate: a write if it is open, and a sync
abbrev pub close_calls : ℕ → Bool → List DeviceEvent
close_calls place true = Sync ∷ []
close_calls place false = Write place (0 ∷ []) ∷ Sync ∷ []

-- the calls that write bytes after a gate, which is closed before that and opened after it
abbrev pub replace_calls : ℕ → Bool → List ℕ → List DeviceEvent
replace_calls place closed behind =
    close_calls place closed ++ (settle_calls (place + 1) behind ++ settle_calls place (open_gate ∷ []))

-- the calls of an opening; none if memory allocation failed for its head
abbrev pub opening_calls : {A : Type 0} → Result A OpeningFault → List DeviceEvent → List DeviceEvent
opening_calls (Ok gate) calls = calls
opening_calls (Err opening.OutOfMemory) calls = []
opening_calls (Err opening.Device) calls = calls

-- no call of it failed
abbrev pub opening_calls_succeeded : {A : Type 0} → Result A OpeningFault → Bool
opening_calls_succeeded (Ok gate) = true
opening_calls_succeeded (Err opening.OutOfMemory) = true
opening_calls_succeeded (Err opening.Device) = false

-- the calls that close the gates of the first segments, up to a number, one at a time
abbrev pub closing_gates : Geometry → ℕ → List DeviceEvent
closing_gates g n = each_below (λ t. settle_calls (segment_place g t) (0 ∷ [])) n

-- the calls that write all of a new device except its header's gate: the gates of its segments, the bytes after the
-- first of these, the header's fields, and then the first segment's gate
abbrev pub fill_calls : Geometry → List ℕ → List DeviceEvent
fill_calls g head =
    closing_gates g g.segments
    ++ (settle_calls 65 head ++ (settle_calls 1 (header_of g) ++ settle_calls 64 (open_gate ∷ [])))

-- the calls of a format: the header's gate is read and closed, the rest is written, and the gate is opened last
abbrev pub whole_format_calls : Geometry → Bool → List ℕ → List DeviceEvent
whole_format_calls g closed head = Read 0 1
    ∷ (close_calls 0 closed ++ (fill_calls g head ++ settle_calls 0 (open_gate ∷ [])))

-- the bytes after the first gate of a new device
abbrev pub new_head : Geometry → List ℕ
new_head g = head_of 1 (new_state g.params) ++ 0 ∷ []

-- no call is made if the geometry is refused, or if memory allocation failed for the first head
abbrev pub format_calls : {A : Type 0} → Result A FormatFault → List DeviceEvent → List DeviceEvent
format_calls (Ok done) calls = calls
format_calls (Err format.OutOfMemory) calls = []
format_calls (Err format.BadGeometry) calls = []
format_calls (Err format.Device) calls = calls

-- no call of it failed
abbrev pub format_calls_succeeded : {A : Type 0} → Result A FormatFault → Bool
format_calls_succeeded (Ok done) = true
format_calls_succeeded (Err format.OutOfMemory) = true
format_calls_succeeded (Err format.BadGeometry) = true
format_calls_succeeded (Err format.Device) = false

-- the read of a header, if the device is at least as long
abbrev pub header_reads : ℕ → List DeviceEvent
header_reads size = if nat_le 64 size then Read 0 53 ∷ [] else []

abbrev pub reads_header : {A : Type 0} → Result A HeaderFault → Bool
reads_header (Ok geometry) = true
reads_header (Err header.NotADevice) = true
reads_header (Err header.BadGeometry) = true
reads_header (Err header.Device) = false

-- the reads of the gate and the generation of the first segments, up to a number
abbrev pub generation_reads : Geometry → ℕ → List DeviceEvent
generation_reads g n = each_below (λ t. Read (segment_place g t) 9 ∷ []) n

abbrev pub reads_newest : {A : Type 0} → Result A NewestFault → Bool
reads_newest (Ok found) = true
reads_newest (Err (newest.Damaged place)) = true
reads_newest (Err newest.Device) = false

-- the reads of a head at an offset: its generation and length, and then its body of that length
abbrev pub head_reads : ℕ → Option ℕ → List DeviceEvent
head_reads place None = Read (place + 1) 12 ∷ []
head_reads place (Some n) = Read (place + 1) 12 ∷ Read (place + 13) n ∷ []

abbrev pub reads_head : {A : Type 0} → Result A HeadFault → Bool
reads_head (Ok found) = true
reads_head (Err head.OutOfMemory) = true
reads_head (Err head.Damaged) = true
reads_head (Err head.Device) = false
