-- The room for the head of the next segment, for a state whose payloads have device addresses (docs/reference/DEFINITIONS.md,
-- "Places").
use Rattle.std.specs.Prelude.{◌≡◌, ℕ, ◌+◌, ◌-◌, ◌/◌, ◌≤◌, ◌==◌, if◌then◌else◌, List, length}
use Rattle.rly_core.specs.declared.params.Geometry.{Geometry}
use Rattle.rly_machine.specs.Map.{map_state}
use Rattle.rly_machine.specs.Sound.{IsSound}
use Rattle.rly_machine.specs.State.{State, live_bytes}
use Rattle.rly_segment_checkpoint.specs.Checkpoint.{state_spelled}
use Rattle.rly_segment_checkpoint.specs.Stored.{stored_form, stored_length}
use Rattle.rly_segment_checkpoint.specs.declared.stored.DeviceAddress.{DeviceAddress}
use Rattle.rly_segment_checkpoint.specs.declared.stored.Stored.{Stored}
use Rattle.rly_segment_checkpoint.specs.declared.stored.Stored.TheVariants.{Inline, Placed}
use Rattle.rly_reclaim.specs.Room.{group_room}
use Rattle.rly_reclaim.specs.Places.{live_in, segment_of}

-- the bytes of an inline payload
abbrev pub inline_length : Stored → ℕ
inline_length (Inline payload) = length payload
inline_length (Placed place) = 0

-- all inline bytes of a state
abbrev pub inline_bytes : State Stored → ℕ
inline_bytes s = live_bytes inline_length s

-- a payload in the next head: inline, as it is read there, if it lies in the victim; else unchanged
abbrev pub collected_payload : Geometry → ℕ → (DeviceAddress → List ℕ) → Stored → Stored
collected_payload g victim read (Inline payload) = Inline payload
collected_payload g victim read (Placed place) = if segment_of g place.start == victim then Inline
    (read place) else Placed place

-- the state in the next head
abbrev pub collected_state : Geometry → ℕ → (DeviceAddress → List ℕ) → State Stored → State Stored
collected_state g victim read s = map_state (collected_payload g victim read) s

-- the properties of a victim whose payloads move into the segment that is opened
pub record HasRoomFor (g : Geometry) (s : State Stored) (victim : ℕ) : Type 0 where
  -- the victim has few live bytes
  pub few : live_in g victim s ≤ g.params.bytes / (g.segments - 1)
  -- a head with this many inline bytes has room in a segment, and so has the largest group after it
  pub head : (t : State Stored) → IsSound stored_length t → t.params ≡ g.params → inline_bytes t ≤ live_in g victim s
      → 13 + length (state_spelled stored_length stored_form t) + group_room g.params.payload ≤ g.length
