-- Heads with payloads inline or in another segment. On a device of two segments every head has all payloads inline.
use Rattle.std.proofs.Common.{◌≡◌, ◌≢◌, ◌≤◌, ◌<◌, ◌+◌, ◌-◌, ◌++◌, ◌∷◌, [], ◌∙◌, ℕ, List, length, length-append, map, arith, sym, ap, refl, subst}
use Rattle.std.specs.Prelude.{All}
use Rattle.std.specs.List.{flat_map}
use Rattle.std.proofs.lemmas.List.{get_or_append_left, get_or-append-add, map-append, map-id}
use Rattle.std.proofs.lemmas.List.Concat.{flat_map-cons}
use Rattle.std.proofs.lemmas.List.Elements.{All-append, All-cons, All-head, All-nil, All-tail, All-weaker}
use Rattle.byteorder.specs.Endian.{big_bytes}
use Rattle.rly_core.specs.declared.params.Geometry.{Geometry}
use Rattle.rly_disk.specs.DiskModel.{SameOutside}
use Rattle.rly_machine.specs.declared.hop.Item.{Item}
use Rattle.rly_machine.specs.Map.{map_item, map_hop, map_state, payloads_of}
use Rattle.rly_machine.specs.Sound.{IsSound}
use Rattle.rly_machine.specs.State.{State, HopState, live_line}
use Rattle.rly_machine.proofs.Alike.{sound_alike}
use Rattle.rly_machine.proofs.Lifting.{state_twice}
use Rattle.rly_segment_checkpoint.specs.Checkpoint.{IsOfForm, inline_form_of, spelled_by}
use Rattle.rly_segment_checkpoint.specs.Stored.{payload_in, stored_length, stored_spelled}
use Rattle.rly_segment_checkpoint.specs.Widths.{mark_of}
use Rattle.rly_segment_checkpoint.specs.declared.head_form.HeadForm.{HeadForm}
use Rattle.rly_segment_checkpoint.specs.Stored.{state_in as state_over}
use Rattle.rly_segment_checkpoint.specs.declared.stored.Stored.{Stored}
use Rattle.rly_segment_checkpoint.specs.declared.stored.Stored.TheVariants.{Inline, Placed}
use Rattle.rly_segment_checkpoint.proofs.OfForm.{ofform_map}
use Rattle.rly_gate.specs.Group.{StandsAt}
use Rattle.rly_segment.specs.Heads.{HoldsHead, HoldsHeadOf, IsHead, IsHeadOf, first_gate, gate_after, head_spelled, segment_end, segment_place}
use Rattle.rly_reclaim.specs.Placed.{IsPlaced, LiesElsewhere}
use Rattle.rly_reclaim.specs.Places.{LiesIn, LiesNotIn}
use Rattle.rly_segment.specs.PlacedHeads.{HoldsPlaced}
use Rattle.rly_journal.proofs.Agreeing.{other_bytes, part_of}
use Rattle.rly_journal.proofs.InlineSpelling.{spelled_inline}

-- ---- parts of a property of each element

left_part : {A : Type 0} (T : A → Type 0) (xs ys : List A) → All T (xs ++ ys) → All T xs
left_part T xs ys all k d lt = subst T (get_or_append_left xs ys d k lt) (all k d (omega (arith, lt, length-append xs ys)))

right_part : {A : Type 0} (T : A → Type 0) (xs ys : List A) → All T (xs ++ ys) → All T ys
right_part T xs ys all k d lt = subst T (get_or-append-add xs ys k d) (all (length xs + k) d (omega (arith, lt, length-append xs ys)))

abbrev names : {P : Type 0} → List (Item P) → List P
names items = map (λ item. item.payload) items

abbrev of_hop : {P : Type 0} → HopState P → List P
of_hop h = names (live_line h)

-- ---- two maps with the same values at each payload of a state

items_same : {P Q : Type 0} (f g : P → Q) (items : List (Item P)) → All (λ p. f p ≡ g p) (names items) → map (map_item f) items ≡ map (map_item g) items
items_same f g [] same = refl
items_same {P} {Q} f g (item ∷ items) same =
    ap (λ (q : Q). let x : Item Q = record { id = item.id; stamp = item.stamp; limit = item.limit; payload = q } in x ∷ map (map_item f) items) (All-head (λ p. f p ≡ g p) item.payload (names items) same)
    ∙ ap (λ (rest : List (Item Q)). map_item g item ∷ rest) (items_same f g items (All-tail (λ p. f p ≡ g p) item.payload (names items) same))

hop_same : {P Q : Type 0} (f g : P → Q) (h : HopState P) → All (λ p. f p ≡ g p) (of_hop h) → map_hop f h ≡ map_hop g h
hop_same {P} {Q} f g h same =
    let T : P → Type 0 = λ p. f p ≡ g p in
    let name : Item P → P = λ item. item.payload in
    let parts = subst (All T) (map-append name h.flight h.queue) same in
    let flight = items_same f g h.flight (left_part T (names h.flight) (names h.queue) parts) in
    let queue = items_same f g h.queue (right_part T (names h.flight) (names h.queue) parts) in
    let with_lines : List (Item Q) → List (Item Q) → HopState Q = λ queue flight. record (map_hop f h) { queue = queue; flight = flight } in
    ap (λ q. with_lines q (map (map_item f) h.flight)) queue ∙ ap (with_lines (map (map_item g) h.queue)) flight

hops_same : {P Q : Type 0} (f g : P → Q) (hops : List (HopState P)) → All (λ p. f p ≡ g p) (flat_map of_hop hops) → map (map_hop f) hops ≡ map (map_hop g) hops
hops_same f g [] same = refl
hops_same {P} {Q} f g (h ∷ hops) same =
    let T : P → Type 0 = λ p. f p ≡ g p in
    let parts = subst (All T) (flat_map-cons of_hop h hops) same in
    ap (λ (x : HopState Q). x ∷ map (map_hop f) hops) (hop_same f g h (left_part T (of_hop h) (flat_map of_hop hops) parts))
    ∙ ap (λ (rest : List (HopState Q)). map_hop g h ∷ rest) (hops_same f g hops (right_part T (of_hop h) (flat_map of_hop hops) parts))

pub state_same : {P Q : Type 0} (f g : P → Q) (s : State P) → All (λ p. f p ≡ g p) (payloads_of s) → map_state f s ≡ map_state g s
state_same {P} {Q} f g s same = ap (λ (hops : List (HopState Q)). let t : State Q = record { params = s.params; hops = hops; lasts = s.lasts; seq = s.seq } in t) (hops_same f g s.hops same)

-- and one that leaves each unchanged

hops_still : {P : Type 0} (hops : List (HopState P)) → map (map_hop (λ (p : P). p)) hops ≡ hops
hops_still [] = refl
hops_still {P} (h ∷ hops) =
    let with_lines : List (Item P) → List (Item P) → HopState P = λ queue flight. record h { queue = queue; flight = flight } in
    ap (λ (g : HopState P). g ∷ map (map_hop (λ (p : P). p)) hops) (ap (λ q. with_lines q (map (λ x. x) h.flight)) (map-id h.queue) ∙ ap (with_lines h.queue) (map-id h.flight))
    ∙ ap (λ (rest : List (HopState P)). h ∷ rest) (hops_still hops)

state_kept : {P : Type 0} (f : P → P) (s : State P) → All (λ p. f p ≡ p) (payloads_of s) → map_state f s ≡ s
state_kept {P} f s kept =
    state_same f (λ (p : P). p) s kept
    ∙ ap (λ (hops : List (HopState P)). let t : State P = record { params = s.params; hops = hops; lasts = s.lasts; seq = s.seq } in t) (hops_still s.hops)

-- ---- a property of each value of a map holds for the payloads of a mapped state

items_mapped : {P Q : Type 0} (T : Q → Type 0) (f : P → Q) → ((p : P) → T (f p)) → (items : List (Item P)) → All T (names (map (map_item f) items))
items_mapped T f each [] = All-nil T
items_mapped T f each (item ∷ items) = All-cons T (f item.payload) (names (map (map_item f) items)) (each item.payload) (items_mapped T f each items)

hop_mapped : {P Q : Type 0} (T : Q → Type 0) (f : P → Q) → ((p : P) → T (f p)) → (h : HopState P) → All T (of_hop (map_hop f h))
hop_mapped {P} {Q} T f each h =
    let name : Item Q → Q = λ item. item.payload in
    let flight : List (Item Q) = map (map_item f) h.flight in
    let queue : List (Item Q) = map (map_item f) h.queue in
    subst (All T) (sym (map-append name flight queue)) (All-append T (names flight) (names queue) (items_mapped T f each h.flight) (items_mapped T f each h.queue))

hops_mapped : {P Q : Type 0} (T : Q → Type 0) (f : P → Q) → ((p : P) → T (f p)) → (hops : List (HopState P)) → All T (flat_map of_hop (map (map_hop f) hops))
hops_mapped T f each [] = All-nil T
hops_mapped {P} {Q} T f each (h ∷ hops) =
    let first : HopState Q = map_hop f h in
    let rest : List (HopState Q) = map (map_hop f) hops in
    subst (All T) (sym (flat_map-cons of_hop first rest)) (All-append T (of_hop first) (flat_map of_hop rest) (hop_mapped T f each h) (hops_mapped T f each hops))

state_mapped : {P Q : Type 0} (T : Q → Type 0) (f : P → Q) → ((p : P) → T (f p)) → (s : State P) → All T (payloads_of (map_state f s))
state_mapped T f each s = hops_mapped T f each s.hops

-- ---- a state with every payload inline

abbrev pub IsInline : Stored → Type 0
IsInline (Inline payload) = Unit {0}
IsInline (Placed place) = ⊥

-- it is its bytes, inline
pub inlined : (image : List ℕ) (s : State Stored) → All IsInline (payloads_of s) → map_state Inline (state_over image s) ≡ s
inlined image s inline =
    state_twice Inline (payload_in image) s
    ∙ state_kept (λ p. Inline (payload_in image p)) s (All-weaker IsInline (λ p. Inline (payload_in image p) ≡ p) one (payloads_of s) inline)
  where
    one : (p : Stored) → IsInline p → Inline (payload_in image p) ≡ p
    one (Inline payload) is = refl
    one (Placed place) is = absurd is

-- ---- a state whose payloads lie outside a segment, if nothing else changed

pub lies_still : {old new : List ℕ} (g : Geometry) (segment : ℕ) (p : Stored) → LiesElsewhere g segment p → SameOutside (segment_place g segment) g.length old new
    → payload_in new p ≡ payload_in old p
lies_still g segment (Inline payload) lies same = refl
lies_still {old} {new} g segment (Placed place) lies same =
    let there = lies.1 in
    part_of (segment_place g there.0) (segment_end g there.0) place.start ((place.start + place.length) - place.start) there.2.from (omega (arith, there.2.to))
    (other_bytes g there.0 segment (λ e. there.1 (sym e)) same)

pub elsewhere_still : {old new : List ℕ} (g : Geometry) (segment : ℕ) (s : State Stored) → All (LiesElsewhere g segment) (payloads_of s)
    → SameOutside (segment_place g segment) g.length old new → state_over new s ≡ state_over old s
elsewhere_still {old} {new} g segment s lie same =
    state_same (payload_in new) (payload_in old) s
    (All-weaker (LiesElsewhere g segment) (λ p. payload_in new p ≡ payload_in old p) (λ p lies. lies_still g segment p lies same) (payloads_of s) lie)

-- ---- the head of one of two segments

third : (a b c : ℕ) → a < 2 → b < 2 → c < 2 → a ≢ c → b ≢ c → a ≡ b
third a b c small_a small_b small_c apart_a apart_b = omega (arith, small_a, small_b, small_c, apart_a, apart_b)

-- it has no payload by device address: all would lie in the segment that has to be free
pub inline_payloads : (g : Geometry) (segment : ℕ) (s : State Stored) → g.segments ≡ 2 → segment < g.segments → IsPlaced g segment s → All IsInline (payloads_of s)
inline_payloads g segment s two below placed k d lt = one _ (placed.elsewhere k d lt) (placed.left.1.none k d lt)
  where
    one : (p : Stored) → LiesElsewhere g segment p → LiesNotIn g placed.left.0 p → IsInline p
    one (Inline payload) lies not_there = tt
    one (Placed place) lies not_there =
        let there = lies.1 in
        let spare = placed.left in
        let same : there.0 ≡ spare.0 = third there.0 spare.0 segment (omega (arith, there.2.there, two)) (omega (arith, spare.1.there, two)) (omega (arith, below, two)) there.1 spare.1.other in
        not_there (subst (λ t. LiesIn g t place) same there.2)

-- the same bytes
pub head_inline : (which : HeadForm) (generation : ℕ) (s : State (List ℕ))
    → head_spelled stored_length (stored_spelled which) generation (map_state Inline s) ≡ head_spelled length (spelled_by inline_form_of which) generation s
unfolding head_spelled
head_inline which generation s =
    ap (λ (body : List ℕ). big_bytes 8 generation ++ big_bytes 4 (mark_of which + length body) ++ body) (spelled_inline which s)

pub gate_inline : (which : HeadForm) (g : Geometry) (segment : ℕ) (s : State (List ℕ))
    → gate_after stored_length (stored_spelled which) g segment (map_state Inline s) ≡ first_gate which g segment s
gate_inline which g segment s = ap (λ (body : List ℕ). segment_place g segment + 13 + length body) (spelled_inline which s)

-- the same lengths
sizes_inline : (s : State (List ℕ)) → map_state length s ≡ map_state stored_length (map_state Inline s)
sizes_inline s = sym (state_twice stored_length Inline s)

pub inline_sound : (s : State (List ℕ)) → IsSound length s → IsSound stored_length (map_state Inline s)
inline_sound s sound = sound_alike length stored_length s (map_state Inline s) (sizes_inline s) sound

pub inline_is_head : (which : HeadForm) (g : Geometry) (segment generation : ℕ) (s : State (List ℕ)) → IsHead which g segment generation s
    → IsHeadOf stored_length (stored_spelled which) g segment generation (map_state Inline s)
inline_is_head which g segment generation s head = record {
  params = head.params;
  least = head.least;
  most = head.most;
  room = omega (arith, gate_inline which g segment s, head.room);
}

pub inline_placed : (g : Geometry) (segment : ℕ) (s : State (List ℕ)) → 2 ≤ g.segments → IsPlaced g segment (map_state Inline s)
inline_placed g segment s two = record {
  elsewhere = state_mapped (LiesElsewhere g segment) Inline (λ payload. tt) s;
  left = (
    1 - segment,
    record {
      there = omega (arith, two);
      other = λ same. omega (arith, same);
      none = state_mapped (LiesNotIn g (1 - segment)) Inline (λ payload. tt) s;
    },
  );
}

pub bytes_head : (which : HeadForm) (image : List ℕ) (g : Geometry) (segment generation : ℕ) (s : State (List ℕ)) → IsOfForm which s
    → HoldsHeadOf stored_length (stored_spelled which) image g segment generation (map_state Inline s) → HoldsHead which image g segment generation s
bytes_head which image g segment generation s plain head = record {
  bytes = subst (StandsAt image (segment_place g segment + 1)) (head_inline which generation s) head.bytes;
  sound = sound_alike stored_length length (map_state Inline s) s (sym (sizes_inline s)) head.sound;
  plain = plain;
  head = record {
    params = head.head.params;
    least = head.head.least;
    most = head.head.most;
    room = omega (arith, gate_inline which g segment s, head.head.room);
  };
}

-- a head of bytes is one of inline payloads
pub inline_holds : (which : HeadForm) (image : List ℕ) (g : Geometry) (segment generation : ℕ) (s : State (List ℕ)) → 2 ≤ g.segments
    → HoldsHead which image g segment generation s → HoldsPlaced which image g segment generation (map_state Inline s)
inline_holds which image g segment generation s two head = record {
  head = record {
    bytes = subst (StandsAt image (segment_place g segment + 1)) (sym (head_inline which generation s)) head.bytes;
    sound = inline_sound s head.sound;
    plain = ofform_map which Inline s head.plain;
    head = inline_is_head which g segment generation s head.head;
  };
  placed = inline_placed g segment s two;
}

-- and there is no other
pub bytes_hold : (which : HeadForm) (image : List ℕ) (g : Geometry) (segment generation : ℕ) (s : State Stored) → g.segments ≡ 2 → segment < g.segments
    → HoldsPlaced which image g segment generation s → HoldsHead which image g segment generation (state_over image s)
bytes_hold which image g segment generation s two below holds =
    let inline = inline_payloads g segment s two below holds.placed in
    bytes_head which image g segment generation (state_over image s) (ofform_map which (payload_in image) s holds.head.plain)
    (subst (HoldsHeadOf stored_length (stored_spelled which) image g segment generation) (sym (inlined image s inline)) holds.head)
