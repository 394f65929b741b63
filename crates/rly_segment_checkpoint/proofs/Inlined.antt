-- States with every payload inline.
use Rattle.std.proofs.Common.{◌≡◌, ℕ, List, [], ◌∷◌, ◌++◌, length, map, refl, sym, ap, ◌∙◌}
use Rattle.std.specs.List.{flat_map}
use Rattle.std.proofs.lemmas.List.{length-map, map-append, map-id}
use Rattle.std.proofs.lemmas.List.Concat.{flat_map-cons}
use Rattle.byteorder.specs.Endian.{big_bytes}
use Rattle.rly_machine.specs.declared.hop.Item.{Item}
use Rattle.rly_machine.specs.Map.{map_item, map_hop, map_state}
use Rattle.rly_machine.specs.State.{State, HopState, live_line}
use Rattle.rly_machine.proofs.Lifting.{state_twice}
use Rattle.rly_segment_checkpoint.specs.Checkpoint.{checkpoint_of, codel_of, entry_spelled, hop_spelled, inline_form, state_spelled}
use Rattle.rly_segment_checkpoint.specs.Stored.{payload_in, state_in, stored_form, stored_length}
use Rattle.rly_segment_checkpoint.specs.declared.head_form.HeadForm.TheVariants.{Second}
use Rattle.rly_segment_checkpoint.specs.declared.stored.Stored.{Stored}
use Rattle.rly_segment_checkpoint.specs.declared.stored.Stored.TheVariants.{Inline}

entries_inline : (items : List (Item (List ℕ)))
    → flat_map (entry_spelled stored_length stored_form) (map (map_item Inline) items) ≡ flat_map (entry_spelled length inline_form) items
unfolding entry_spelled
entries_inline [] = refl
entries_inline (item ∷ items) =
    flat_map-cons (entry_spelled stored_length stored_form) (map_item Inline item) (map (map_item Inline) items)
    ∙ ap (λ (rest : List ℕ). entry_spelled length inline_form item ++ rest) (entries_inline items)
    ∙ sym (flat_map-cons (entry_spelled length inline_form) item items)

hop_inline : (h : HopState (List ℕ))
    → hop_spelled stored_length stored_form (map_hop Inline h) ≡ hop_spelled length inline_form h
unfolding hop_spelled
hop_inline h =
    let text : ℕ → ℕ → List ℕ → List ℕ = λ flight queue entries.
    big_bytes 7 h.moment ++ codel_of Second h.codel ++ big_bytes 6 h.taken ++ big_bytes 6 h.dropped ++ big_bytes 6 h.released ++ big_bytes 6 h.expired ++ big_bytes 2 flight ++ big_bytes 4 queue ++ entries in
    let spell : List (Item Stored) → List ℕ = flat_map (entry_spelled stored_length stored_form) in
    ap (λ (n : ℕ). text n (length (map (map_item Inline) h.queue)) (spell (map (map_item Inline) h.flight ++ map (map_item Inline) h.queue))) (length-map h.flight (map_item Inline))
    ∙ ap (λ (n : ℕ). text (length h.flight) n (spell (map (map_item Inline) h.flight ++ map (map_item Inline) h.queue))) (length-map h.queue (map_item Inline))
    ∙ ap (λ (items : List (Item Stored)). text (length h.flight) (length h.queue) (spell items)) (sym (map-append (map_item Inline) h.flight h.queue))
    ∙ ap (text (length h.flight) (length h.queue)) (entries_inline (live_line h))

hops_inline : (hops : List (HopState (List ℕ)))
    → flat_map (hop_spelled stored_length stored_form) (map (map_hop Inline) hops) ≡ flat_map (hop_spelled length inline_form) hops
hops_inline [] = refl
hops_inline (h ∷ hops) =
    let spell : HopState Stored → List ℕ = hop_spelled stored_length stored_form in
    flat_map-cons spell (map_hop Inline h) (map (map_hop Inline) hops)
    ∙ ap (λ (first : List ℕ). first ++ flat_map spell (map (map_hop Inline) hops)) (hop_inline h)
    ∙ ap (λ (rest : List ℕ). hop_spelled length inline_form h ++ rest) (hops_inline hops)
    ∙ sym (flat_map-cons (hop_spelled length inline_form) h hops)

-- such a state is encoded like the state with bytes
pub spelled_inline : (s : State (List ℕ))
    → state_spelled stored_length stored_form (map_state Inline s) ≡ checkpoint_of s
unfolding state_spelled
spelled_inline s = ap (λ (hops : List ℕ). big_bytes 8 s.seq ++ flat_map (big_bytes 8) s.lasts ++ hops) (hops_inline s.hops)

-- a state with the same payloads is the same state
hops_same : (hops : List (HopState (List ℕ))) → map (map_hop (λ (payload : List ℕ). payload)) hops ≡ hops
hops_same [] = refl
hops_same (h ∷ hops) =
    let with_lines : List (Item (List ℕ)) → List (Item (List ℕ)) → HopState (List ℕ) = λ queue flight. record h { queue = queue; flight = flight } in
    ap (λ (g : HopState (List ℕ)). g ∷ map (map_hop (λ (payload : List ℕ). payload)) hops) (ap (λ q. with_lines q (map (λ x. x) h.flight)) (map-id h.queue) ∙ ap (with_lines h.queue) (map-id h.flight))
    ∙ ap (λ (rest : List (HopState (List ℕ))). h ∷ rest) (hops_same hops)

-- and over every image it recovers to it
pub bytes_inline : (image : List ℕ) (s : State (List ℕ)) → state_in image (map_state Inline s) ≡ s
bytes_inline image s =
    state_twice (payload_in image) Inline s
    ∙ ap (λ (hops : List (HopState (List ℕ))). let t : State (List ℕ) = record { params = s.params; hops = hops; lasts = s.lasts; seq = s.seq } in t) (hops_same s.hops)
