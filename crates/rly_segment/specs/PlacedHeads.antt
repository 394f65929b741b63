-- The head of a segment with payloads inline or by device address, and the state that it recovers to (docs/FORMATS.md,
-- "Heads").
use Rattle.std.specs.Prelude.{◌≡◌, ℕ, List, Result, Ok, Err}
use Rattle.rly_core.specs.declared.params.Geometry.{Geometry}
use Rattle.rly_machine.specs.State.{State}
use Rattle.rly_segment_checkpoint.specs.Stored.{state_in, stored_length, stored_spelled}
use Rattle.rly_segment_checkpoint.specs.declared.head_form.HeadForm.{HeadForm}
use Rattle.rly_segment_checkpoint.specs.declared.stored.Stored.{Stored}
use Rattle.rly_reclaim.specs.Placed.{IsPlaced}
use Rattle.rly_segment.specs.declared.heads.Head.{Head}
use Rattle.rly_segment.specs.declared.heads.HeadFault.{HeadFault}
use Rattle.rly_segment.specs.declared.heads.HeadFault.TheVariants as head
use Rattle.rly_segment.specs.Heads.{HoldsHeadOf}

-- the head of a segment, of that form, holds a state, and its device addresses are allowed
pub record HoldsPlaced (which : HeadForm) (image : List ℕ) (g : Geometry) (segment generation : ℕ) (s : State Stored)
    : Type 0 where
  pub head : HoldsHeadOf stored_length (stored_spelled which) image g segment generation s
  pub placed : IsPlaced g segment s

-- it holds no such state, in either form
abbrev pub HoldsNonePlaced : List ℕ → Geometry → ℕ → Type 0
HoldsNonePlaced image g segment =
    (which : HeadForm) (generation : ℕ) (s : State Stored) → HoldsPlaced which image g segment generation s → ⊥

-- the state that it recovers to: each payload by device address has the image's bytes there
pub record HeadStandsFor (image : List ℕ) (g : Geometry) (segment generation : ℕ) (state : State (List ℕ))
    : Type 0 where
  pub form : HeadForm
  pub stored : State Stored
  pub holds : HoldsPlaced form image g segment generation stored
  pub bytes : state_in image stored ≡ state

-- the result of reading such a head: its state, or that it holds none
abbrev pub IsReadPlaced : List ℕ → Geometry → ℕ → Result (Head Stored) HeadFault → Type 0
IsReadPlaced image g segment (Ok found) = HoldsPlaced found.form image g segment found.generation found.machine.state
IsReadPlaced image g segment (Err head.Damaged) = HoldsNonePlaced image g segment
IsReadPlaced image g segment (Err head.OutOfMemory) = Unit {0}
IsReadPlaced image g segment (Err head.Device) = Unit {0}
