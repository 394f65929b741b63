-- Relocation: when a segment is opened, the victim's payloads are written inline into the new head, and lie there from
-- then on (docs/reference/DEFINITIONS.md, "Moving").
use Rattle.std.specs.Prelude.{◌≡◌, ◌≢◌, ℕ, ◌+◌, ◌<◌, ◌≤◌, List, length, replicate, All}
use Rattle.rly_core.specs.declared.params.Geometry.{Geometry}
use Rattle.rly_machine.specs.Map.{payloads_of}
use Rattle.rly_machine.specs.State.{State}
use Rattle.rly_segment_checkpoint.specs.Checkpoint.{state_spelled}
use Rattle.rly_segment_checkpoint.specs.Stored.{stored_form, stored_length}
use Rattle.rly_segment_checkpoint.specs.declared.head_form.HeadForm.TheVariants.{Second}
use Rattle.rly_segment_checkpoint.specs.declared.stored.DeviceAddress.{DeviceAddress}
use Rattle.rly_segment_checkpoint.specs.declared.stored.Stored.{Stored}
use Rattle.rly_segment_checkpoint.specs.declared.stored.Stored.TheVariants.{Inline, Placed}
use Rattle.rly_reclaim.specs.Places.{LiesIn, live_in}
use Rattle.rly_reclaim.specs.LiveRoom.{collected_state, inline_bytes}
use Rattle.rly_segment.specs.HeadAddresses.{state_in_head}

-- a payload by device address has bytes, and lies wholly in a segment of the device
abbrev pub LiesThere : Geometry → Stored → Type 0
LiesThere g (Inline payload) = Unit {0}
LiesThere g (Placed place) = (1 ≤ place.length) × ((segment : ℕ) × LiesIn g segment place)

-- zeros in place of bytes that aren't read
abbrev pub zeros_at : DeviceAddress → List ℕ
zeros_at place = replicate place.length 0

-- the device addresses after the victim's payloads moved into the head of the target, of form 2, whatever their bytes
-- are
abbrev pub relocated_state : Geometry → ℕ → ℕ → State Stored → State Stored
relocated_state g target victim s = state_in_head Second g target (collected_state g victim zeros_at s)

-- the victim's payloads can move into the head of the target: the target has no live bytes, nothing is inline, each
-- payload lies in a segment, and the head has room
pub record MayMove (g : Geometry) (target victim : ℕ) (s : State Stored) : Type 0 where
  pub some : 1 ≤ g.length
  pub there : target < g.segments
  pub other : victim ≢ target
  pub empty : live_in g target s ≡ 0
  pub inline : inline_bytes s ≡ 0
  pub room : 13 + length (state_spelled stored_length stored_form (collected_state g victim zeros_at s)) ≤ g.length
  pub lies : All (LiesThere g) (payloads_of s)
