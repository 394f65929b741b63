-- The device addresses of a state's payloads, and the live bytes of each segment (docs/reference/DEFINITIONS.md, "Places").
use Rattle.std.specs.Prelude.{ℕ, ◌+◌, ◌*◌, ◌/◌, ◌-◌, ◌<◌, ◌≤◌, ◌==◌, if◌then◌else◌, List, map}
use Rattle.std.specs.List.{range_with_len}
use Rattle.rly_core.specs.declared.params.Geometry.{Geometry}
use Rattle.rly_machine.specs.State.{State, live_bytes}
use Rattle.rly_segment_checkpoint.specs.declared.stored.DeviceAddress.{DeviceAddress}
use Rattle.rly_segment_checkpoint.specs.declared.stored.Stored.{Stored}
use Rattle.rly_segment_checkpoint.specs.declared.stored.Stored.TheVariants.{Inline, Placed}

-- the segment that a device offset lies in
abbrev pub segment_of : Geometry → ℕ → ℕ
segment_of g start = (start - 64) / g.length

-- the number of a payload's bytes that lie in a segment by device address
abbrev pub bytes_in : Geometry → ℕ → Stored → ℕ
bytes_in g segment (Inline payload) = 0
bytes_in g segment (Placed place) = if segment_of g place.start == segment then place.length else 0

-- the live payload bytes of a segment
abbrev pub live_in : Geometry → ℕ → State Stored → ℕ
live_in g segment s = live_bytes (bytes_in g segment) s

-- the same for each segment
abbrev pub live_by_segment : Geometry → State Stored → List ℕ
live_by_segment g s = map (λ segment. live_in g segment s) (range_with_len 0 g.segments)

-- a device address lies wholly in a segment of the device
pub record LiesIn (g : Geometry) (segment : ℕ) (place : DeviceAddress) : Type 0 where
  pub there : segment < g.segments
  pub from : 64 + segment * g.length ≤ place.start
  pub to : place.start + place.length ≤ 64 + segment * g.length + g.length

-- a payload has no device address in a segment
abbrev pub LiesNotIn : Geometry → ℕ → Stored → Type 0
LiesNotIn g segment (Inline payload) = Unit {0}
LiesNotIn g segment (Placed place) = ¬ LiesIn g segment place
