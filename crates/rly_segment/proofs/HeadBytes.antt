-- The state of a head.
use Rattle.rly_segment.proofs.Common.{◌++◌, ◌+◌, ◌<◌, ◌^◌, ◌∙◌, ◌≡◌, ◌≤◌, All, ap, arith, big_bytes, drop, Geometry, HaveForms, head_spelled, HeadForm}
use Rattle.rly_segment.proofs.Common.{HoldsHeadOf, IsIn, IsOfForm, IsSound, length, List, mark_of, segment_place, Spelled, spelled_by, stands_back, stands_both}
use Rattle.rly_segment.proofs.Common.{stands_front, StandsAt, State, state_spelled, sym, take, ℕ}
use Rattle.rly_gate.proofs.Holding.{number_once}
use Rattle.rly_reclaim.specs.Room.{group_room}
use Rattle.rly_segment.specs.declared.heads.Start.{Start}

-- the generation and the length before a body
abbrev pub start_of : ℕ → ℕ → List ℕ
start_of generation count = big_bytes 8 generation ++ big_bytes 4 count

-- the offset of the body
behind_start : (g : Geometry) (segment : ℕ) → segment_place g segment + 1 + 12 ≡ segment_place g segment + 13
behind_start g segment = omega arith

-- a head is its generation and length, and after them the body
pub head_parts : {P : Type 0} {len : P → ℕ} {form : Spelled P} {image : List ℕ} {g : Geometry} {segment generation : ℕ} {s : State P}
    → HoldsHeadOf len form image g segment generation s
    → StandsAt image (segment_place g segment + 1) (start_of generation (mark_of form.which + length (state_spelled len form s)))
    × StandsAt image (segment_place g segment + 13) (state_spelled len form s)
unfolding head_spelled
head_parts {len = len} {form} {image} {g} {segment} {generation} {s} holds =
    let body : List ℕ = state_spelled len form s in
    let start : List ℕ = start_of generation (mark_of form.which + length body) in
    (stands_front image _ start body holds.bytes, rw (behind_start g segment) at (stands_back image _ start body holds.bytes))

-- a generation, a form and a length follow the gate of a segment
pub record IsStart (image : List ℕ) (g : Geometry) (segment : ℕ) (start : Start) : Type 0 where
  pub short : g.length < 2 ^ 31
  pub generation_fits : start.generation < 2 ^ 64
  pub length_fits : start.length < 2 ^ 31
  pub at : StandsAt image (segment_place g segment + 1) (start_of start.generation (mark_of start.form + start.length))

module _ {P : Type 0} {len : P → ℕ} (form : HeadForm → P → List ℕ) {image : List ℕ} {g : Geometry} {segment : ℕ} where
  -- the start of a head that holds a state
  pub its_start : (which : HeadForm) {generation : ℕ} {s : State P} → g.length < 2 ^ 31 → HoldsHeadOf len (spelled_by form which) image g segment generation s
      → IsStart image g segment (record { generation = generation; form = which; length = length (state_spelled len (spelled_by form which) s) })
  its_start which short holds = search (arith, holds.head, holds.sound.seq, (head_parts holds).0)

  module _ {start : Start} (read : IsStart image g segment start) where
    -- a head there begins with the fields that were read: the length field gives its form
    pub start_is : (v : HeadForm) {other : ℕ} {s : State P} → HoldsHeadOf len (spelled_by form v) image g segment other s
        → (start.generation ≡ other) × (start.form ≡ v) × (start.length ≡ length (state_spelled len (spelled_by form v) s))
    start_is v holds =
        let its = its_start v read.short holds in
        let generation = number_once 8 _ _ read.generation_fits its.generation_fits (ap (take 8) (sym read.at ∙ its.at)) in
        let marked = number_once 4 _ _ (grind (arith, read.length_fits)) (grind (arith, its.length_fits)) (ap (drop 8) (sym read.at ∙ its.at)) in
        grind (arith, generation, marked, read.length_fits, its.length_fits)

    module _ {body : List ℕ} (is : body ≡ take start.length (drop (segment_place g segment + 13) image)) where
      -- a head there has a state that the body encodes in the form that was read
      pub read_as : (HasForm : HeadForm → P → Type 0) (R : State P → Type 0) → ((s : State P) → IsSound len s → All (HaveForms (HasForm start.form)) s.hops
          → IsOfForm start.form s → s.params ≡ g.params → body ≡ state_spelled len (spelled_by form start.form) s → R s)
          → (v : HeadForm) {other : ℕ} {s : State P} → All (HaveForms (HasForm v)) s.hops → HoldsHeadOf len (spelled_by form v) image g segment other s → R s
      read_as HasForm R only v {s = s} has holds =
          let its = start_is v holds in
          (rw its.1 at only) s holds.sound has holds.plain holds.head.params
          (is ∙ ap (λ k. take k (drop (segment_place g segment + 13) image)) its.2 ∙ (head_parts holds).1)

      -- the head of the state with this body as its checkpoint
      pub holds_head : (found : State P) → length body ≡ start.length → body ≡ state_spelled len (spelled_by form start.form) found → found.params ≡ g.params
          → IsSound len found → IsOfForm start.form found → IsIn 1 (found.seq + 1) start.generation → 13 + start.length + group_room g.params.payload ≤ g.length
          → HoldsHeadOf len (spelled_by form start.form) image g segment start.generation found
      unfolding head_spelled
      holds_head found long checkpoint params sound plain within room =
          let text : List ℕ = state_spelled len (spelled_by form start.form) found in
          let size : start.length ≡ length text = sym long ∙ ap length checkpoint in
          let stands : StandsAt image (segment_place g segment + 1 + 12) text = rw (behind_start g segment, ← size) (sym is ∙ checkpoint) in
          let bytes = stands_both image _ (start_of start.generation (mark_of start.form + length text)) text (rw size at read.at) stands in
          search (arith, bytes)
