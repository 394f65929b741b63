-- Spools that are the same except for inline bytes.
use Rattle.std.proofs.Common.{◌≡◌, ◌∷◌, [], ◌+◌, ◌*◌, ℕ, suc, List, length, map, replicate, arith, refl, sym, ap, ◌∙◌}
use Rattle.std.specs.List.{flat_map}
use Rattle.std.proofs.lemmas.List.{length-append, length-replicate, map-append}
use Rattle.std.proofs.lemmas.List.Concat.{flat_map-cons}
use Rattle.rly_core.specs.declared.params.Geometry.{Geometry}
use Rattle.rly_machine.specs.Map.{map_hop, map_item, map_state}
use Rattle.rly_machine.specs.Sound.{IsSound}
use Rattle.rly_machine.specs.State.{HopState, State, live_bytes, live_line}
use Rattle.rly_machine.specs.declared.hop.Item.{Item}
use Rattle.rly_machine.proofs.Alike.{sound_alike}
use Rattle.rly_machine.proofs.Lifting.{state_twice}
use Rattle.rly_machine.proofs.Mapping.{mapped_bytes}
use Rattle.rly_segment_checkpoint.specs.Checkpoint.{entry_spelled, hop_spelled, state_spelled}
use Rattle.rly_segment_checkpoint.specs.Stored.{stored_form, stored_length}
use Rattle.rly_segment_checkpoint.specs.declared.head_form.HeadForm.TheVariants.{Second}
use Rattle.rly_segment_checkpoint.specs.declared.stored.Stored.{Stored}
use Rattle.rly_segment_checkpoint.specs.declared.stored.Stored.TheVariants.{Inline, Placed}
use Rattle.rly_segment_checkpoint.proofs.Parts.{length-entry}
use Rattle.rly_segment_checkpoint.proofs.Sizes.{length-hop, length-parts}
use Rattle.rly_reclaim.specs.Places.{bytes_in, live_in}
use Rattle.rly_reclaim.specs.LiveRoom.{collected_state, inline_bytes, inline_length}
use Rattle.rly_reclaim.proofs.Weights.{maps_same}
use Rattle.rly_segment.specs.Heads.{segment_place}
use Rattle.rly_segment.specs.HeadAddresses.{stored_in_head, hop_in_head, hops_in_head, items_in_head, state_in_head}
use Rattle.rly_journal_relocate.specs.Relocation.{relocated_state, zeros_at}
use Rattle.rly_journal_relocate.specs.Collection.{IsSameButForBytes, blank_payload, blank_state}

-- ---- a payload

pub blank_length : (p : Stored) → stored_length (blank_payload p) ≡ stored_length p
blank_length (Inline payload) = length-replicate (length payload) 0
blank_length (Placed place) = refl

blank_inline : (p : Stored) → inline_length (blank_payload p) ≡ inline_length p
blank_inline (Inline payload) = length-replicate (length payload) 0
blank_inline (Placed place) = refl

blank_bytes : (g : Geometry) (segment : ℕ) (p : Stored) → bytes_in g segment (blank_payload p) ≡ bytes_in g segment p
blank_bytes g segment (Inline payload) = refl
blank_bytes g segment (Placed place) = refl

-- a weight that doesn't depend on bytes
weight_same : (w : Stored → ℕ) → ((p : Stored) → w (blank_payload p) ≡ w p) → (s t : State Stored) → IsSameButForBytes s t → live_bytes w s ≡ live_bytes w t
weight_same w blind s t same = sym (mapped_bytes w w blank_payload blind s) ∙ ap (λ (u : State Stored). live_bytes w u) same ∙ mapped_bytes w w blank_payload blind t

pub same_lengths : (s t : State Stored) → IsSameButForBytes s t → map_state stored_length s ≡ map_state stored_length t
same_lengths s t same =
    sym (state_twice stored_length blank_payload s ∙ maps_same (λ p. stored_length (blank_payload p)) stored_length blank_length s)
    ∙ ap (λ (u : State Stored). map_state stored_length u) same
    ∙ state_twice stored_length blank_payload t ∙ maps_same (λ p. stored_length (blank_payload p)) stored_length blank_length t

pub same_sound : (s t : State Stored) → IsSameButForBytes s t → IsSound stored_length s → IsSound stored_length t
same_sound s t same sound = sound_alike stored_length stored_length s t (same_lengths s t same) sound

pub same_inline : (s t : State Stored) → IsSameButForBytes s t → inline_bytes s ≡ inline_bytes t
same_inline = weight_same inline_length blank_inline

pub same_live : (g : Geometry) (segment : ℕ) (s t : State Stored) → IsSameButForBytes s t → live_in g segment s ≡ live_in g segment t
same_live g segment = weight_same (bytes_in g segment) (blank_bytes g segment)

-- ---- heads as they are written, and the addresses of their payloads

entry_blank : (item : Item Stored) → length (entry_spelled stored_length stored_form (map_item blank_payload item)) ≡ length (entry_spelled stored_length stored_form item)
entry_blank item =
    omega (
      arith,
      length-entry stored_length stored_form (map_item blank_payload item),
      length-entry stored_length stored_form item,
      form_blank item.payload,
    )
  where
    form_blank : (p : Stored) → length (stored_form.form (blank_payload p)) ≡ length (stored_form.form p)
    form_blank (Inline payload) = omega (arith, blank_inline (Inline payload))
    form_blank (Placed place) = refl

-- the addresses depend on lengths alone
settled_blank : (at : ℕ) (p : Stored) → stored_in_head at (blank_payload p) ≡ stored_in_head at p
settled_blank at (Inline []) = refl
settled_blank at (Inline (byte ∷ bytes)) =
    let n : length {A = ℕ} (replicate (length bytes) 0) ≡ length bytes = length-replicate (length bytes) 0 in
    ap (λ (k : ℕ). let p : Stored = Placed (record { start = at; length = suc k }) in p) n
settled_blank at (Placed place) = refl

abbrev entries : List (Item Stored) → List ℕ
entries = flat_map (entry_spelled stored_length stored_form)

abbrev spelled_hop : HopState Stored → List ℕ
spelled_hop = hop_spelled stored_length stored_form

length_cons : {X : Type 0} (f : X → List ℕ) (x : X) (xs : List X) → length (flat_map f (x ∷ xs)) ≡ length (f x) + length (flat_map f xs)
length_cons f x xs = ap (λ (l : List ℕ). length l) (flat_map-cons f x xs) ∙ length-append (f x) (flat_map f xs)

entries_blank : (items : List (Item Stored)) → length (entries (map (map_item blank_payload) items)) ≡ length (entries items)
entries_blank [] = refl
entries_blank (item ∷ items) =
    omega (
      arith,
      length_cons (entry_spelled stored_length stored_form) (map_item blank_payload item) (map (map_item blank_payload) items),
      length_cons (entry_spelled stored_length stored_form) item items,
      entry_blank item,
      entries_blank items,
    )

hop_blank : (h : HopState Stored) → length (spelled_hop (map_hop blank_payload h)) ≡ length (spelled_hop h)
hop_blank h =
    length-hop stored_length stored_form (map_hop blank_payload h)
    ∙ ap (λ (l : List (Item Stored)). 64 + length (entries l)) (sym (map-append (map_item blank_payload) h.flight h.queue))
    ∙ ap (λ (n : ℕ). 64 + n) (entries_blank (live_line h))
    ∙ sym (length-hop stored_length stored_form h)

hops_blank : (hops : List (HopState Stored)) → length (flat_map spelled_hop (map (map_hop blank_payload) hops)) ≡ length (flat_map spelled_hop hops)
hops_blank [] = refl
hops_blank (h ∷ hops) =
    omega (
      arith,
      length_cons spelled_hop (map_hop blank_payload h) (map (map_hop blank_payload) hops),
      length_cons spelled_hop h hops,
      hop_blank h,
      hops_blank hops,
    )

spelled_blank : (s : State Stored) → length (state_spelled stored_length stored_form (blank_state s)) ≡ length (state_spelled stored_length stored_form s)
spelled_blank s =
    omega (
      arith,
      length-parts stored_length stored_form (blank_state s),
      length-parts stored_length stored_form s,
      hops_blank s.hops,
    )

pub same_spelled : (s t : State Stored) → IsSameButForBytes s t
    → length (state_spelled stored_length stored_form s) ≡ length (state_spelled stored_length stored_form t)
same_spelled s t same = sym (spelled_blank s) ∙ ap (λ (u : State Stored). length (state_spelled stored_length stored_form u)) same ∙ spelled_blank t

-- the addresses of a head's payloads
settled_items_blank : (at : ℕ) (items : List (Item Stored)) → items_in_head Second at (map (map_item blank_payload) items) ≡ items_in_head Second at items
settled_items_blank at [] = refl
settled_items_blank at (item ∷ items) =
    let size : Item Stored → ℕ = λ x. length (entry_spelled stored_length stored_form x) in
    ap (λ (p : Stored). let x : Item Stored = record { id = item.id; stamp = item.stamp; limit = item.limit; payload = p } in
    x ∷ items_in_head Second (at + size (map_item blank_payload item)) (map (map_item blank_payload) items)) (settled_blank (at + 21) item.payload)
    ∙ ap (λ (n : ℕ). map_item (stored_in_head (at + 21)) item ∷ items_in_head Second (at + n) (map (map_item blank_payload) items)) (entry_blank item)
    ∙ ap (λ (l : List (Item Stored)). map_item (stored_in_head (at + 21)) item ∷ l) (settled_items_blank (at + size item) items)

settled_hop_blank : (at : ℕ) (h : HopState Stored) → hop_in_head Second at (map_hop blank_payload h) ≡ hop_in_head Second at h
settled_hop_blank at h =
    let with_lines : List (Item Stored) → List (Item Stored) → HopState Stored = λ flight queue. record h { flight = flight; queue = queue } in
    ap (λ (l : List (Item Stored)). with_lines l (items_in_head Second (at + 64 + length (entries (map (map_item blank_payload) h.flight))) (map (map_item blank_payload) h.queue)))
    (settled_items_blank (at + 64) h.flight)
    ∙ ap (λ (n : ℕ). with_lines (items_in_head Second (at + 64) h.flight) (items_in_head Second (at + 64 + n) (map (map_item blank_payload) h.queue))) (entries_blank h.flight)
    ∙ ap (with_lines (items_in_head Second (at + 64) h.flight)) (settled_items_blank (at + 64 + length (entries h.flight)) h.queue)

settled_hops_blank : (at : ℕ) (hops : List (HopState Stored)) → hops_in_head Second at (map (map_hop blank_payload) hops) ≡ hops_in_head Second at hops
settled_hops_blank at [] = refl
settled_hops_blank at (h ∷ hops) =
    ap (λ (x : HopState Stored). x ∷ hops_in_head Second (at + length (spelled_hop (map_hop blank_payload h))) (map (map_hop blank_payload) hops)) (settled_hop_blank at h)
    ∙ ap (λ (n : ℕ). hop_in_head Second at h ∷ hops_in_head Second (at + n) (map (map_hop blank_payload) hops)) (hop_blank h)
    ∙ ap (λ (l : List (HopState Stored)). hop_in_head Second at h ∷ l) (settled_hops_blank (at + length (spelled_hop h)) hops)

settled_state_blank : (g : Geometry) (segment : ℕ) (s : State Stored) → state_in_head Second g segment (blank_state s) ≡ state_in_head Second g segment s
settled_state_blank g segment s =
    ap (λ (hops : List (HopState Stored)). let t : State Stored = record { params = s.params; hops = hops; lasts = s.lasts; seq = s.seq } in t)
    (settled_hops_blank (segment_place g segment + 21 + 8 * length s.lasts) s.hops)

pub same_settled : (g : Geometry) (segment : ℕ) (s t : State Stored) → IsSameButForBytes s t → state_in_head Second g segment s ≡ state_in_head Second g segment t
same_settled g segment s t same =
    sym (settled_state_blank g segment s) ∙ ap (λ (u : State Stored). state_in_head Second g segment u) same ∙ settled_state_blank g segment t

pub same_moved : (g : Geometry) (target victim : ℕ) (s copy : State Stored) → IsSameButForBytes copy (collected_state g victim zeros_at s)
    → state_in_head Second g target copy ≡ relocated_state g target victim s
same_moved g target victim s copy same = same_settled g target copy (collected_state g victim zeros_at s) same
