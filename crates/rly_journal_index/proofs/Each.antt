-- Properties of each payload of a head, after it got its address, and of each that a map keeps.
use Rattle.std.proofs.Common.{ℕ, ◌≡◌, ◌+◌, ◌≤◌, List, [], ◌∷◌, ◌++◌, length, map, arith, refl, ap, subst, ◌∙◌, length-append}
use Rattle.std.specs.Prelude.{All}
use Rattle.std.specs.List.{flat_map}
use Rattle.std.proofs.lemmas.List.{map-append}
use Rattle.std.proofs.Math.Seq.{drop-append_seam, take-append_seam}
use Rattle.std.proofs.lemmas.List.Concat.{flat_map-cons}
use Rattle.std.proofs.lemmas.List.Elements.{All-append, All-cons, All-drop, All-head, All-nil, All-tail, All-take}
use Rattle.std.proofs.lemmas.Grind.{flat_map-append}
use Rattle.rly_machine.specs.Map.{map_hop, map_item}
use Rattle.rly_machine.specs.State.{HopState, live_line}
use Rattle.rly_machine.specs.declared.hop.Item.{Item}
use Rattle.rly_segment_checkpoint.specs.Checkpoint.{entry_spelled, hop_spelled}
use Rattle.rly_segment_checkpoint.specs.Stored.{stored_form_of, stored_length, stored_spelled}
use Rattle.rly_segment_checkpoint.specs.Widths.{entry_width, hop_width}
use Rattle.rly_segment_checkpoint.specs.declared.head_form.HeadForm.{HeadForm}
use Rattle.rly_segment_checkpoint.specs.declared.head_form.HeadForm.TheVariants.{First, Second}
use Rattle.rly_segment_checkpoint.specs.declared.stored.Stored.{Stored}
use Rattle.rly_segment_checkpoint.specs.declared.stored.Stored.TheVariants.{Inline, Placed}
use Rattle.rly_segment_checkpoint.proofs.Parts.{length-entry}
use Rattle.rly_segment_checkpoint.proofs.Sizes.{length-hop}
use Rattle.rly_reclaim.specs.LiveRoom.{inline_length}
use Rattle.rly_segment.specs.HeadAddresses.{stored_in_head, hop_in_head, hops_in_head, items_in_head}

-- of a head of a form
module _ (which : HeadForm) where
  -- an entry has at least one byte before its payload, which it contains if it is inline
  form_least : (p : Stored) → 1 + inline_length p ≤ length (stored_form_of which p)
  form_least (Inline payload) = omega arith
  form_least (Placed place) = by_form which
    where
      by_form : (w : HeadForm) → 1 ≤ length (stored_form_of w (Placed place))
      by_form First = let e : length (stored_form_of First (Placed place)) ≡ 9 = refl in omega (arith, e)
      by_form Second = let e : length (stored_form_of Second (Placed place)) ≡ 6 = refl in omega (arith, e)

  abbrev entries : List (Item Stored) → List ℕ
  entries = flat_map (entry_spelled stored_length (stored_spelled which))

  abbrev spelled_hop : HopState Stored → List ℕ
  spelled_hop = hop_spelled stored_length (stored_spelled which)

  entries_cons : (item : Item Stored) (items : List (Item Stored))
      → length (entries (item ∷ items)) ≡ length (entry_spelled stored_length (stored_spelled which) item) + length (entries items)
  entries_cons item items =
      let one : Item Stored → List ℕ = entry_spelled stored_length (stored_spelled which) in
      ap (λ (l : List ℕ). length l) (flat_map-cons one item items) ∙ length-append (one item) (flat_map one items)

  entries_both : (xs ys : List (Item Stored)) → length (entries (xs ++ ys)) ≡ length (entries xs) + length (entries ys)
  entries_both xs ys =
      let one : Item Stored → List ℕ = entry_spelled stored_length (stored_spelled which) in
      ap (λ (l : List ℕ). length l) (flat_map-append one xs ys) ∙ length-append (flat_map one xs) (flat_map one ys)

  hops_cons : (h : HopState Stored) (hops : List (HopState Stored))
      → length (flat_map spelled_hop (h ∷ hops)) ≡ length (spelled_hop h) + length (flat_map spelled_hop hops)
  hops_cons h hops = ap (λ (l : List ℕ). length l) (flat_map-cons spelled_hop h hops) ∙ length-append (spelled_hop h) (flat_map spelled_hop hops)

  -- addresses that are set in a range of offsets
  module _ (from to : ℕ) where
    module _ (S T : Stored → Type 0) (each : (at : ℕ) (p : Stored) → from ≤ at → at + inline_length p ≤ to → S p → T (stored_in_head at p)) where
      items_all : (at : ℕ) (items : List (Item Stored)) → from ≤ at → at + length (entries items) ≤ to
          → All (λ item. S item.payload) items → All (λ item. T item.payload) (items_in_head which at items)
      items_all at [] above within all = All-nil (λ (item : Item Stored). T item.payload)
      items_all at (item ∷ items) above within all =
          let next : ℕ = at + length (entry_spelled stored_length (stored_spelled which) item) in
          let size : length (entry_spelled stored_length (stored_spelled which) item) + 1 ≡ entry_width which + length (stored_form_of which item.payload) = length-entry stored_length (stored_spelled which) item in
          All-cons (λ (x : Item Stored). T x.payload) (map_item (stored_in_head (at + entry_width which)) item) (items_in_head which next items)
          (each (at + entry_width which) item.payload (omega (arith, above)) (omega (arith, within, entries_cons item items, size, form_least item.payload)) (All-head (λ (x : Item Stored). S x.payload) item items all))
          (items_all next items (omega (arith, above)) (omega (arith, within, entries_cons item items)) (All-tail (λ (x : Item Stored). S x.payload) item items all))

      abbrev live_all : (Stored → Type 0) → HopState Stored → Type 0
      live_all U h = All (λ (item : Item Stored). U item.payload) (live_line h)

      pub hops_all : (at : ℕ) (hops : List (HopState Stored)) → from ≤ at → at + length (flat_map spelled_hop hops) ≤ to
          → All (live_all S) hops → All (live_all T) (hops_in_head which at hops)
      hops_all at [] above within all = All-nil (live_all T)
      hops_all at (h ∷ hops) above within all =
          let next : ℕ = at + length (spelled_hop h) in
          let behind : ℕ = at + hop_width which + length (entries h.flight) in
          let size : length (spelled_hop h) ≡ hop_width which + length (entries (live_line h)) = length-hop stored_length (stored_spelled which) h in
          let here : live_all S h = All-head (live_all S) h hops all in
          let P : Item Stored → Type 0 = λ x. S x.payload in
          let Q : Item Stored → Type 0 = λ x. T x.payload in
          let flight : All P h.flight = subst (All P) (take-append_seam h.flight h.queue) (All-take P (length h.flight) (live_line h) here) in
          let queue : All P h.queue = subst (All P) (drop-append_seam h.flight h.queue) (All-drop P (length h.flight) (live_line h) here) in
          All-cons (live_all T) (hop_in_head which at h) (hops_in_head which next hops)
          (All-append Q (items_in_head which (at + hop_width which) h.flight) (items_in_head which behind h.queue)
          (items_all (at + hop_width which) h.flight (omega (arith, above)) (omega (arith, within, hops_cons h hops, size, entries_both h.flight h.queue)) flight)
          (items_all behind h.queue (omega (arith, above)) (omega (arith, within, hops_cons h hops, size, entries_both h.flight h.queue)) queue))
          (hops_all next hops (omega (arith, above)) (omega (arith, within, hops_cons h hops)) (All-tail (live_all S) h hops all))

-- a map that keeps a property of a payload
items_mapped : (S : Stored → Type 0) (f : Stored → Stored) → ((p : Stored) → S p → S (f p)) → (items : List (Item Stored))
    → All (λ item. S item.payload) items → All (λ item. S item.payload) (map (map_item f) items)
items_mapped S f keeps [] all = All-nil (λ (item : Item Stored). S item.payload)
items_mapped S f keeps (item ∷ items) all =
    let P : Item Stored → Type 0 = λ x. S x.payload in
    All-cons P (map_item f item) (map (map_item f) items) (keeps item.payload (All-head P item items all)) (items_mapped S f keeps items (All-tail P item items all))

pub hops_mapped : (S : Stored → Type 0) (f : Stored → Stored) → ((p : Stored) → S p → S (f p)) → (hops : List (HopState Stored))
    → All (λ h. All (λ item. S item.payload) (live_line h)) hops → All (λ h. All (λ item. S item.payload) (live_line h)) (map (map_hop f) hops)
hops_mapped S f keeps [] all = All-nil (λ (h : HopState Stored). All (λ (item : Item Stored). S item.payload) (live_line h))
hops_mapped S f keeps (h ∷ hops) all =
    let P : Item Stored → Type 0 = λ x. S x.payload in
    let L : HopState Stored → Type 0 = λ x. All P (live_line x) in
    All-cons L (map_hop f h) (map (map_hop f) hops)
    (subst (All P) (map-append (map_item f) h.flight h.queue) (items_mapped S f keeps (live_line h) (All-head L h hops all)))
    (hops_mapped S f keeps hops (All-tail L h hops all))
