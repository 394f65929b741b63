-- A formatted device, and the images that a crash within `format` may leave.
use Rattle.std.specs.Prelude.{◌≡◌, ◌⊎◌, ℕ, ◌<◌, ◌≤◌, List, length, slice_index}
use Rattle.rly_core.specs.declared.params.Geometry.{Geometry}
use Rattle.rly_machine.specs.State.{new_state}
use Rattle.rly_gate.specs.Group.{IsClosed, StandsAt}
use Rattle.rly_segment.specs.Device.{IsDevice, IsLayout, device_length, geometry_in}
use Rattle.rly_segment.specs.Heads.{opened_head, segment_place}

-- a new device: its header, the head of the empty state in the first segment with no group after it, and no other head
pub record IsFormatted (g : Geometry) (image : List ℕ) : Type 0 where
  pub device : IsDevice image
  pub geometry : geometry_in image ≡ g
  pub fits : IsLayout g (length image)
  pub head : StandsAt image (segment_place g 0) (opened_head 1 (new_state g.params))
  pub others : (t : ℕ) → 0 < t → t < g.segments → IsClosed image (segment_place g t)

-- the bytes outside the device's format are unchanged: those after the header's fields, and those after the last
-- segment
pub record IsSameBeside (g : Geometry) (old image : List ℕ) : Type 0 where
  pub same_length : length image ≡ length old
  pub header : (i : ℕ) → 53 ≤ i → i < 64 → slice_index image i ≡ slice_index old i
  pub behind : (i : ℕ) → device_length g ≤ i → slice_index image i ≡ slice_index old i

-- the images that a crash within `format` may leave: the old device, none, or the new one
abbrev pub IsFormatting : Geometry → List ℕ → List ℕ → Type 0
IsFormatting g old image = (image ≡ old) ⊎ (IsDevice image → ⊥) ⊎ IsFormatted g image
