-- Segments and their heads: the newest head, and its content (docs/FORMATS.md, "Heads").
use Rattle.std.specs.Prelude.{◌≡◌, ◌≢◌, ◌⊎◌, ℕ, ◌+◌, ◌*◌, ◌<◌, ◌≤◌, List, [], ◌∷◌, ◌++◌, length}
use Rattle.byteorder.specs.Endian.{big_bytes}
use Rattle.rly_core.specs.declared.params.Geometry.{Geometry}
use Rattle.rly_disk.specs.DiskModel.{SameOutside}
use Rattle.rly_machine.specs.Sound.{IsSound}
use Rattle.rly_machine.specs.State.{State}
use Rattle.rly_segment_checkpoint.specs.Checkpoint.{IsOfForm, Spelled, inline_form, inline_form_of, spelled_by}
use Rattle.rly_segment_checkpoint.specs.Checkpoint.{state_spelled}
use Rattle.rly_segment_checkpoint.specs.Widths.{mark_of}
use Rattle.rly_segment_checkpoint.specs.declared.head_form.HeadForm.{HeadForm}
use Rattle.rly_gate.specs.Group.{IsClosed, IsOpen, StandsAt, open_gate}
use Rattle.rly_reclaim.specs.Room.{group_room}
use Rattle.rly_segment.specs.Device.{number_in}

-- the device offset of a segment, that of its gate
abbrev pub segment_place : Geometry → ℕ → ℕ
segment_place g segment = 64 + segment * g.length

-- the device offset after a segment
abbrev pub segment_end : Geometry → ℕ → ℕ
segment_end g segment = segment_place g segment + g.length

-- the generation of a segment's head
abbrev pub generation_in : List ℕ → Geometry → ℕ → ℕ
generation_in image g segment = number_in image (segment_place g segment + 1) 8

-- no segment's gate is open
abbrev pub NoneIsOpen : List ℕ → Geometry → Type 0
NoneIsOpen image g = (t : ℕ) → t < g.segments → IsClosed image (segment_place g t)

-- of the open heads only this one has the greatest generation
pub record IsNewest (image : List ℕ) (g : Geometry) (segment : ℕ) : Type 0 where
  pub there : segment < g.segments
  pub gate : IsOpen image (segment_place g segment)
  pub newest : (t : ℕ) → t < g.segments → t ≢ segment → IsOpen image (segment_place g t)
      → generation_in image g t < generation_in image g segment

-- several open heads share the greatest generation, and this is the last of them
pub record IsLastOfTie (image : List ℕ) (g : Geometry) (segment : ℕ) : Type 0 where
  pub there : segment < g.segments
  pub gate : IsOpen image (segment_place g segment)
  pub greatest : (t : ℕ) → t < g.segments → IsOpen image (segment_place g t)
      → generation_in image g t ≤ generation_in image g segment
  pub last : (t : ℕ) → t < g.segments → segment < t → IsOpen image (segment_place g t)
      → generation_in image g t < generation_in image g segment
  pub other : ℕ
  pub before : other < segment
  pub other_gate : IsOpen image (segment_place g other)
  pub shared : generation_in image g other ≡ generation_in image g segment

-- the offset in the error, if no single open head has the greatest generation
abbrev pub IsAmbiguous : List ℕ → Geometry → ℕ → Type 0
IsAmbiguous image g place =
    (NoneIsOpen image g × (place ≡ 64))
    ⊎ ((segment : ℕ) × IsLastOfTie image g segment × (place ≡ segment_place g segment))

-- the bytes after the gate of a segment whose head holds a state; the content of its entries has a length and a form.
-- The top bit of the length encodes the form of the head
unfoldable pub head_spelled : {P : Type 0} → (P → ℕ) → Spelled P → ℕ → State P → List ℕ
head_spelled len form generation s =
    big_bytes 8 generation ++ big_bytes 4 (mark_of form.which + length (state_spelled len form s))
    ++ state_spelled len form s

-- a whole head: its gate, and the closed gate of the first group after it
abbrev pub opened_spelled : {P : Type 0} → (P → ℕ) → Spelled P → ℕ → State P → List ℕ
opened_spelled len form generation s = open_gate ∷ head_spelled len form generation s ++ 0 ∷ []

-- the device offset of the first group's gate, after a head with a state
abbrev pub gate_after : {P : Type 0} → (P → ℕ) → Spelled P → Geometry → ℕ → State P → ℕ
gate_after len form g segment s = segment_place g segment + 13 + length (state_spelled len form s)

-- a head of this generation can hold a state there
pub record IsHeadOf {P : Type 0} (len : P → ℕ) (form : Spelled P) (g : Geometry) (segment generation : ℕ) (s : State P)
    : Type 0 where
  pub params : s.params ≡ g.params
  pub least : 1 ≤ generation
  pub most : generation ≤ s.seq + 1
  pub room : gate_after len form g segment s + group_room g.params.payload ≤ segment_end g segment

-- the head of a segment holds a state
pub record HoldsHeadOf {P : Type 0} (len : P → ℕ) (form : Spelled P) (image : List ℕ) (g : Geometry)
    (segment generation : ℕ) (s : State P) : Type 0 where
  pub bytes : StandsAt image (segment_place g segment + 1) (head_spelled len form generation s)
  pub sound : IsSound len s
  pub plain : IsOfForm form.which s
  pub head : IsHeadOf len form g segment generation s

-- the same with every payload inline, as heads are written
abbrev pub head_of : ℕ → State (List ℕ) → List ℕ
head_of = head_spelled length inline_form

abbrev pub opened_head : ℕ → State (List ℕ) → List ℕ
opened_head = opened_spelled length inline_form

-- and in either form, as heads are read
abbrev pub first_gate : HeadForm → Geometry → ℕ → State (List ℕ) → ℕ
first_gate which = gate_after length (spelled_by inline_form_of which)

abbrev pub IsHead : HeadForm → Geometry → ℕ → ℕ → State (List ℕ) → Type 0
IsHead which = IsHeadOf length (spelled_by inline_form_of which)

abbrev pub HoldsHead : HeadForm → List ℕ → Geometry → ℕ → ℕ → State (List ℕ) → Type 0
HoldsHead which = HoldsHeadOf length (spelled_by inline_form_of which)

-- the head of a segment is open only if it was before, with the same generation
abbrev pub IsPassedOver : Geometry → ℕ → List ℕ → List ℕ → Type 0
IsPassedOver g segment old image = IsOpen image (segment_place g segment)
    → IsOpen old (segment_place g segment) × (generation_in image g segment ≡ generation_in old g segment)

-- the images that a crash within the opening of a segment may leave: all bytes outside it unchanged, and the whole
-- head, or none that is newer
pub record IsOpeningOf {P : Type 0} (len : P → ℕ) (form : Spelled P) (g : Geometry) (segment generation : ℕ)
    (s : State P) (old image : List ℕ) : Type 0 where
  pub outside : SameOutside (segment_place g segment) g.length old image
  pub whole : IsPassedOver g segment old image
      ⊎ StandsAt image (segment_place g segment) (opened_spelled len form generation s)
