-- The device addresses that a head may have (docs/FORMATS.md, "Heads").
use Rattle.std.specs.Prelude.{◌≢◌, ℕ, ◌<◌, ◌≤◌, All}
use Rattle.rly_core.specs.declared.params.Geometry.{Geometry}
use Rattle.rly_machine.specs.Map.{payloads_of}
use Rattle.rly_machine.specs.State.{State}
use Rattle.rly_segment_checkpoint.specs.declared.stored.Stored.{Stored}
use Rattle.rly_segment_checkpoint.specs.declared.stored.Stored.TheVariants.{Inline, Placed}
use Rattle.rly_reclaim.specs.Places.{LiesIn, LiesNotIn}

-- a payload by device address has bytes, and lies wholly in one segment other than the given one
abbrev pub LiesElsewhere : Geometry → ℕ → Stored → Type 0
LiesElsewhere g own (Inline payload) = Unit {0}
LiesElsewhere g own (Placed place) = (1 ≤ place.length) × ((segment : ℕ) × (segment ≢ own) × LiesIn g segment place)

-- a segment other than the given one, in which no payload lies
pub record HoldsNone (g : Geometry) (own segment : ℕ) (s : State Stored) : Type 0 where
  pub there : segment < g.segments
  pub other : segment ≢ own
  pub none : All (LiesNotIn g segment) (payloads_of s)

-- the condition on the head of a segment: each payload by device address lies in another segment, and some other
-- segment holds none
pub record IsPlaced (g : Geometry) (own : ℕ) (s : State Stored) : Type 0 where
  pub elsewhere : All (LiesElsewhere g own) (payloads_of s)
  pub left : (segment : ℕ) × HoldsNone g own segment s
