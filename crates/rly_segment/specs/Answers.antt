-- The results of reading a device's header, its newest head, and the content of a head.
use Rattle.std.specs.Prelude.{◌≡◌, ◌↔◌, ℕ, ◌<◌, List, length, Bool, true, false, All, Result, Ok, Err, slice_index_or}
use Rattle.rly_core.specs.declared.params.Geometry.{Geometry}
use Rattle.rly_machine.specs.State.{State}
use Rattle.rly_segment_checkpoint.specs.Checkpoint.{spelled_by}
use Rattle.rly_segment_checkpoint.specs.Forms.{HaveForms}
use Rattle.rly_segment_checkpoint.specs.declared.head_form.HeadForm.{HeadForm}
use Rattle.rly_gate.specs.Group.{IsClosed}
use Rattle.rly_segment.specs.declared.header.HeaderFault.{HeaderFault}
use Rattle.rly_segment.specs.declared.header.HeaderFault.TheVariants as header
use Rattle.rly_segment.specs.declared.generations.NewestHead.{NewestHead}
use Rattle.rly_segment.specs.declared.generations.NewestFault.{NewestFault}
use Rattle.rly_segment.specs.declared.generations.NewestFault.TheVariants as newest
use Rattle.rly_segment.specs.declared.heads.Head.{Head}
use Rattle.rly_segment.specs.declared.heads.HeadFault.{HeadFault}
use Rattle.rly_segment.specs.declared.heads.HeadFault.TheVariants as head
use Rattle.rly_segment.specs.Device.{IsDevice, IsLayout, geometry_in}
use Rattle.rly_segment.specs.Heads.{HoldsHead, HoldsHeadOf, IsAmbiguous, IsNewest, segment_place}

-- the result for a header: its geometry, or that there is no header, or that no device of its size has that geometry
abbrev pub IsReadHeader : List ℕ → Result Geometry HeaderFault → Type 0
IsReadHeader image (Ok g) = IsDevice image × (g ≡ geometry_in image) × IsLayout g (length image)
IsReadHeader image (Err header.NotADevice) = IsDevice image → ⊥
IsReadHeader image (Err header.BadGeometry) = IsDevice image × (IsLayout (geometry_in image) (length image) → ⊥)
IsReadHeader image (Err header.Device) = Unit {0}

-- the segments whose gates are closed
abbrev pub AreClosed : List ℕ → Geometry → ℕ → List Bool → Type 0
AreClosed image g count closed =
    (t : ℕ) → t < count → (slice_index_or closed t false ≡ true) ↔ IsClosed image (segment_place g t)

-- the result for the newest head: its segment and the closed gates, or the offset of the damage if there is no newest
-- head
abbrev pub IsReadNewest : List ℕ → Geometry → Result NewestHead NewestFault → Type 0
IsReadNewest image g (Ok found) = IsNewest image g found.segment × AreClosed image g g.segments found.closed
IsReadNewest image g (Err (newest.Damaged place)) = IsAmbiguous image g place
IsReadNewest image g (Err newest.Device) = Unit {0}

-- the head of a segment holds no state, in either form
abbrev pub HoldsNoHead : List ℕ → Geometry → ℕ → Type 0
HoldsNoHead image g segment =
    (which : HeadForm) (generation : ℕ) (s : State (List ℕ)) → HoldsHead which image g segment generation s → ⊥

-- nor a state whose content has forms
abbrev pub HoldsNoHeadOf : {P : Type 0} → (P → ℕ) → (HeadForm → P → List ℕ) → (HeadForm → P → Type 0)
    → List ℕ → Geometry → ℕ → Type 0
HoldsNoHeadOf {P} len form HasForm image g segment =
    (which : HeadForm) (generation : ℕ) (s : State P) → All (HaveForms (HasForm which)) s.hops
    → HoldsHeadOf len (spelled_by form which) image g segment generation s → ⊥

-- the result for a head: a state whose content has forms, or that it holds none
abbrev pub IsReadHeadOf : {P : Type 0} → (P → ℕ) → (HeadForm → P → List ℕ) → (HeadForm → P → Type 0)
    → List ℕ → Geometry → ℕ → Result (Head P) HeadFault → Type 0
IsReadHeadOf len form HasForm image g segment (Ok found) =
    HoldsHeadOf len (spelled_by form found.form) image g segment found.generation found.machine.state
IsReadHeadOf len form HasForm image g segment (Err head.Damaged) = HoldsNoHeadOf len form HasForm image g segment
IsReadHeadOf len form HasForm image g segment (Err head.OutOfMemory) = Unit {0}
IsReadHeadOf len form HasForm image g segment (Err head.Device) = Unit {0}

-- the same with every payload inline
abbrev pub IsReadHead : List ℕ → Geometry → ℕ → Result (Head (List ℕ)) HeadFault → Type 0
IsReadHead image g segment (Ok found) = HoldsHead found.form image g segment found.generation found.machine.state
IsReadHead image g segment (Err head.Damaged) = HoldsNoHead image g segment
IsReadHead image g segment (Err head.OutOfMemory) = Unit {0}
IsReadHead image g segment (Err head.Device) = Unit {0}
