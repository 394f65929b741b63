-- A head that was read: if no segment is cleaned, the collected copy of its state is that state.
use Rattle.std.proofs.Common.{ℕ, ◌≡◌, Bool, cond, List, [], ◌∷◌, length, map, arith, refl, ap, subst, ◌∙◌}
use Rattle.std.specs.Prelude.{All}
use Rattle.std.proofs.Math.Seq.{drop-append_seam, take-append_seam}
use Rattle.std.proofs.lemmas.Bool.{ne_eqb}
use Rattle.std.proofs.lemmas.List.Elements.{All-drop, All-head, All-tail, All-take, All-weaker}
use Rattle.rly_core.specs.declared.params.Geometry.{Geometry}
use Rattle.rly_machine.specs.Map.{map_hop, map_item, payloads_of}
use Rattle.rly_machine.specs.State.{HopState, State, live_line}
use Rattle.rly_machine.specs.declared.hop.Item.{Item}
use Rattle.rly_segment_checkpoint.specs.declared.stored.Stored.{Stored}
use Rattle.rly_segment_checkpoint.specs.declared.stored.Stored.TheVariants.{Inline, Placed}
use Rattle.rly_reclaim.specs.Placed.{LiesElsewhere}
use Rattle.rly_reclaim.specs.Places.{segment_of}
use Rattle.rly_reclaim.specs.LiveRoom.{collected_payload, collected_state}
use Rattle.rly_reclaim.proofs.Placing.{of_items, segment_once}
use Rattle.rly_journal_relocate.specs.Relocation.{LiesThere, zeros_at}

-- ---- a map that keeps each payload of a state

items_held : (f : Stored → Stored) (items : List (Item Stored)) → All (λ item. f item.payload ≡ item.payload) items → map (map_item f) items ≡ items
items_held f [] same = refl
items_held f (item ∷ items) same =
    let Same : Item Stored → Type 0 = λ x. f x.payload ≡ x.payload in
    ap (λ (p : Stored). let x : Item Stored = record item { payload = p } in x ∷ map (map_item f) items) (All-head Same item items same)
    ∙ ap (λ (rest : List (Item Stored)). item ∷ rest) (items_held f items (All-tail Same item items same))

hop_held : (f : Stored → Stored) (h : HopState Stored) → All (λ item. f item.payload ≡ item.payload) (live_line h) → map_hop f h ≡ h
hop_held f h same =
    let Same : Item Stored → Type 0 = λ x. f x.payload ≡ x.payload in
    let flight : All Same h.flight = subst (All Same) (take-append_seam h.flight h.queue) (All-take Same (length h.flight) (live_line h) same) in
    let queue : All Same h.queue = subst (All Same) (drop-append_seam h.flight h.queue) (All-drop Same (length h.flight) (live_line h) same) in
    let with_lines : List (Item Stored) → List (Item Stored) → HopState Stored = λ q l. record h { queue = q; flight = l } in
    ap (λ (q : List (Item Stored)). with_lines q (map (map_item f) h.flight)) (items_held f h.queue queue)
    ∙ ap (with_lines h.queue) (items_held f h.flight flight)

hops_held : (f : Stored → Stored) (hops : List (HopState Stored)) → All (λ h. All (λ item. f item.payload ≡ item.payload) (live_line h)) hops
    → map (map_hop f) hops ≡ hops
hops_held f [] same = refl
hops_held f (h ∷ hops) same =
    let Each : HopState Stored → Type 0 = λ x. All (λ (item : Item Stored). f item.payload ≡ item.payload) (live_line x) in
    ap (λ (k : HopState Stored). k ∷ map (map_hop f) hops) (hop_held f h (All-head Each h hops same))
    ∙ ap (λ (rest : List (HopState Stored)). h ∷ rest) (hops_held f hops (All-tail Each h hops same))

-- ---- a payload that lies in a segment

stays : (g : Geometry) (own : ℕ) (p : Stored) → LiesElsewhere g own p → collected_payload g g.segments zeros_at p ≡ p
stays g own (Inline payload) lies = refl
stays g own (Placed place) lies =
    let apart : segment_of g place.start ≡ g.segments → ⊥ = λ same. omega (arith, same, segment_once g lies.1.0 place lies.0 lies.1.2, lies.1.2.there) in
    ap (λ (b : Bool). cond b (Inline (zeros_at place)) (Placed place)) (ne_eqb (segment_of g place.start) g.segments apart)

there : (g : Geometry) (own : ℕ) (p : Stored) → LiesElsewhere g own p → LiesThere g p
there g own (Inline payload) lies = tt
there g own (Placed place) lies = (lies.0, (lies.1.0, lies.1.2))

pub all_there : (g : Geometry) (own : ℕ) (s : State Stored) → All (LiesElsewhere g own) (payloads_of s) → All (LiesThere g) (payloads_of s)
all_there g own s elsewhere = All-weaker (LiesElsewhere g own) (LiesThere g) (there g own) (payloads_of s) elsewhere

pub none_drawn : (g : Geometry) (own : ℕ) (s : State Stored) → All (LiesElsewhere g own) (payloads_of s) → collected_state g g.segments zeros_at s ≡ s
none_drawn g own s elsewhere =
    let f : Stored → Stored = collected_payload g g.segments zeros_at in
    let Same : Stored → Type 0 = λ p. f p ≡ p in
    ap (λ (hops : List (HopState Stored)). record s { hops = hops })
    (hops_held f s.hops (of_items Same s.hops (All-weaker (LiesElsewhere g own) Same (stays g own) (payloads_of s) elsewhere)))
