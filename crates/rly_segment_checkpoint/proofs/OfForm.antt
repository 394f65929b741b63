-- A state with other payloads fits the same forms of heads: limits and numbers of expired datagrams are unchanged.
use Rattle.std.proofs.Common.{◌≡◌, List, [], ◌∷◌, map, subst}
use Rattle.std.specs.Prelude.{All}
use Rattle.std.proofs.lemmas.List.{map-append}
use Rattle.std.proofs.lemmas.List.Elements.{All-cons, All-head, All-nil, All-tail}
use Rattle.rly_machine.specs.declared.hop.Item.{Item}
use Rattle.rly_machine.specs.Map.{map_item, map_hop, map_state}
use Rattle.rly_machine.specs.State.{State, HopState, live_line}
use Rattle.rly_segment_checkpoint.specs.Checkpoint.{IsOfForm}
use Rattle.rly_segment_checkpoint.specs.declared.head_form.HeadForm.{HeadForm}
use Rattle.rly_segment_checkpoint.specs.declared.head_form.HeadForm.TheVariants.{First, Second}

-- an item without a limit, and a hop without limits and expired datagrams
abbrev NoLimit : {P : Type 0} → Item P → Type 0
NoLimit item = item.limit ≡ 0

abbrev IsPlain : {P : Type 0} → HopState P → Type 0
IsPlain h = (h.expired ≡ 0) × All NoLimit (live_line h)

items_map : {P Q : Type 0} (f : P → Q) (items : List (Item P)) → All NoLimit items → All NoLimit (map (map_item f) items)
items_map {P} {Q} f [] all = All-nil (NoLimit {P = Q})
items_map {P} {Q} f (item ∷ items) all =
    All-cons (NoLimit {P = Q}) (map_item f item) (map (map_item f) items) (All-head (NoLimit {P = P}) item items all) (items_map f items (All-tail (NoLimit {P = P}) item items all))

hop_map : {P Q : Type 0} (f : P → Q) (h : HopState P) → IsPlain h → IsPlain (map_hop f h)
hop_map {P} {Q} f h plain = (plain.0, subst (All (NoLimit {P = Q})) (map-append (map_item f) h.flight h.queue) (items_map f (live_line h) plain.1))

hops_map : {P Q : Type 0} (f : P → Q) (hops : List (HopState P)) → All IsPlain hops → All IsPlain (map (map_hop f) hops)
hops_map {P} {Q} f [] all = All-nil (IsPlain {P = Q})
hops_map {P} {Q} f (h ∷ hops) all =
    All-cons (IsPlain {P = Q}) (map_hop f h) (map (map_hop f) hops) (hop_map f h (All-head (IsPlain {P = P}) h hops all)) (hops_map f hops (All-tail (IsPlain {P = P}) h hops all))

pub ofform_map : {P Q : Type 0} (which : HeadForm) (f : P → Q) (s : State P) → IsOfForm which s → IsOfForm which (map_state f s)
ofform_map First f s plain = hops_map f s.hops plain
ofform_map Second f s plain = tt
