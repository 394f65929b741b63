-- A state with every payload inline is encoded like the state with bytes, in a head of either form.
use Rattle.std.proofs.Common.{◌≡◌, ℕ, List, [], ◌∷◌, ◌++◌, length, map, refl, sym, ap, ◌∙◌}
use Rattle.std.specs.List.{flat_map}
use Rattle.std.proofs.lemmas.List.{length-map, map-append}
use Rattle.std.proofs.lemmas.List.Concat.{flat_map-cons}
use Rattle.byteorder.specs.Endian.{big_bytes}
use Rattle.rly_machine.specs.declared.hop.Item.{Item}
use Rattle.rly_machine.specs.Map.{map_item, map_hop, map_state}
use Rattle.rly_machine.specs.State.{State, HopState, live_line}
use Rattle.rly_segment_checkpoint.specs.Checkpoint.{codel_of, entry_spelled, hop_spelled, inline_form_of, spelled_by, state_spelled}
use Rattle.rly_segment_checkpoint.specs.Stored.{stored_length, stored_spelled}
use Rattle.rly_segment_checkpoint.specs.Widths.{count_width, expired_width, moment_width}
use Rattle.rly_segment_checkpoint.specs.declared.head_form.HeadForm.{HeadForm}
use Rattle.rly_segment_checkpoint.specs.declared.stored.Stored.{Stored}
use Rattle.rly_segment_checkpoint.specs.declared.stored.Stored.TheVariants.{Inline}

module _ (which : HeadForm) where
  abbrev of_stored : Item Stored → List ℕ
  of_stored = entry_spelled stored_length (stored_spelled which)

  abbrev of_bytes : Item (List ℕ) → List ℕ
  of_bytes = entry_spelled length (spelled_by inline_form_of which)

  one_inline : (item : Item (List ℕ)) → of_stored (map_item Inline item) ≡ of_bytes item
  unfolding entry_spelled
  one_inline item = refl

  entries_inline : (items : List (Item (List ℕ))) → flat_map of_stored (map (map_item Inline) items) ≡ flat_map of_bytes items
  entries_inline [] = refl
  entries_inline (item ∷ items) =
      flat_map-cons of_stored (map_item Inline item) (map (map_item Inline) items)
      ∙ ap (λ (one : List ℕ). one ++ flat_map of_stored (map (map_item Inline) items)) (one_inline item)
      ∙ ap (λ (rest : List ℕ). of_bytes item ++ rest) (entries_inline items)
      ∙ sym (flat_map-cons of_bytes item items)

  hop_inline : (h : HopState (List ℕ))
      → hop_spelled stored_length (stored_spelled which) (map_hop Inline h) ≡ hop_spelled length (spelled_by inline_form_of which) h
  unfolding hop_spelled
  hop_inline h =
      let text : ℕ → ℕ → List ℕ → List ℕ = λ flight queue entries.
      big_bytes (moment_width which) h.moment ++ codel_of which h.codel ++ big_bytes (count_width which) h.taken
      ++ big_bytes (count_width which) h.dropped ++ big_bytes (count_width which) h.released ++ big_bytes (expired_width which) h.expired
      ++ big_bytes 2 flight ++ big_bytes 4 queue ++ entries in
      let spell : List (Item Stored) → List ℕ = flat_map of_stored in
      ap (λ (n : ℕ). text n (length (map (map_item Inline) h.queue)) (spell (map (map_item Inline) h.flight ++ map (map_item Inline) h.queue))) (length-map h.flight (map_item Inline))
      ∙ ap (λ (n : ℕ). text (length h.flight) n (spell (map (map_item Inline) h.flight ++ map (map_item Inline) h.queue))) (length-map h.queue (map_item Inline))
      ∙ ap (λ (items : List (Item Stored)). text (length h.flight) (length h.queue) (spell items)) (sym (map-append (map_item Inline) h.flight h.queue))
      ∙ ap (text (length h.flight) (length h.queue)) (entries_inline (live_line h))

  hops_inline : (hops : List (HopState (List ℕ)))
      → flat_map (hop_spelled stored_length (stored_spelled which)) (map (map_hop Inline) hops) ≡ flat_map (hop_spelled length (spelled_by inline_form_of which)) hops
  hops_inline [] = refl
  hops_inline (h ∷ hops) =
      let spell : HopState Stored → List ℕ = hop_spelled stored_length (stored_spelled which) in
      flat_map-cons spell (map_hop Inline h) (map (map_hop Inline) hops)
      ∙ ap (λ (first : List ℕ). first ++ flat_map spell (map (map_hop Inline) hops)) (hop_inline h)
      ∙ ap (λ (rest : List ℕ). hop_spelled length (spelled_by inline_form_of which) h ++ rest) (hops_inline hops)
      ∙ sym (flat_map-cons (hop_spelled length (spelled_by inline_form_of which)) h hops)

  pub spelled_inline : (s : State (List ℕ))
      → state_spelled stored_length (stored_spelled which) (map_state Inline s) ≡ state_spelled length (spelled_by inline_form_of which) s
  unfolding state_spelled
  spelled_inline s = ap (λ (hops : List ℕ). big_bytes 8 s.seq ++ flat_map (big_bytes 8) s.lasts ++ hops) (hops_inline s.hops)
