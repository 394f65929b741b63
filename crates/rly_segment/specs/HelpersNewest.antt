-- Helpers: the loop invariant of `newest`. No public contract cites them; `Answers` defines the result.
use Rattle.std.specs.Prelude.{◌≡◌, ◌≢◌, ℕ, ◌+◌, ◌<◌, ◌≤◌, List, true, false, Option, Some, None}
use Rattle.rly_core.specs.declared.params.Geometry.{Geometry}
use Rattle.rly_gate.specs.Group.{IsClosed, IsOpen}
use Rattle.rly_segment.specs.declared.generations.Greatest.{Greatest}
use Rattle.rly_segment.specs.Device.{number_in}
use Rattle.rly_segment.specs.Heads.{generation_in, segment_place}

-- the result of reading a head's gate and generation: the generation, or none if the gate is closed
abbrev pub IsReadGate : List ℕ → ℕ → Option ℕ → Type 0
IsReadGate image place None = IsClosed image place
IsReadGate image place (Some generation) = IsOpen image place × (generation ≡ number_in image (place + 1) 8)

-- of the open heads of the first segments this is the last one with the greatest generation, and whether an earlier one
-- ties with it
pub record IsGreatest (image : List ℕ) (g : Geometry) (count : ℕ) (greatest : Greatest) : Type 0 where
  pub there : greatest.segment < count
  pub gate : IsOpen image (segment_place g greatest.segment)
  pub generation : greatest.generation ≡ generation_in image g greatest.segment
  pub most : (t : ℕ) → t < count → IsOpen image (segment_place g t) → generation_in image g t ≤ greatest.generation
  pub last : (t : ℕ) → t < count → greatest.segment < t → IsOpen image (segment_place g t)
      → generation_in image g t < greatest.generation
  pub shared : greatest.is_shared ≡ true
      → (t : ℕ) × (t < greatest.segment) × IsOpen image (segment_place g t)
      × (generation_in image g t ≡ greatest.generation)
  pub alone : greatest.is_shared ≡ false
      → (t : ℕ) → t < count → t ≢ greatest.segment → IsOpen image (segment_place g t)
      → generation_in image g t < greatest.generation

-- the result for the first segments
abbrev pub IsFound : List ℕ → Geometry → ℕ → Option Greatest → Type 0
IsFound image g count None = (t : ℕ) → t < count → IsClosed image (segment_place g t)
IsFound image g count (Some greatest) = IsGreatest image g count greatest
