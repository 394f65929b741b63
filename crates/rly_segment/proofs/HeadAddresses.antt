-- The device addresses of a head's inline payloads.
use Rattle.rly_segment.proofs.Common.{[], ◌*◌, ◌++◌, ◌+◌, ◌-◌, ◌∙◌, ◌∷◌, ◌≡◌, arith, big_bytes, codel_of, entry_spelled, entry_width, First, flat_map, Geometry}
use Rattle.rly_segment.proofs.Common.{HeadForm, HoldsHeadOf, hop_spelled, hop_width, HopState, Inline, IsSound, length, length-numbers, List, live_line, map}
use Rattle.rly_segment.proofs.Common.{map_hop, map_item, map_state, payload_in, refl, Second, segment_place, slice_range, stands_back, stands_front, StandsAt}
use Rattle.rly_segment.proofs.Common.{State, state_in, state_spelled, Stored, stored_length, stored_spelled, sym, take, ℕ}
use Rattle.rly_machine.proofs.Alike.{bytes_alike, sound_alike}
use Rattle.rly_machine.specs.declared.hop.Item.{Item}
use Rattle.rly_reclaim.proofs.Weights.{bytes_none}
use Rattle.rly_reclaim.specs.LiveRoom.{inline_bytes, inline_length}
use Rattle.rly_segment.specs.HeadAddresses.{stored_in_head, hops_in_head, items_in_head, state_in_head}
use Rattle.std.proofs.lemmas.Grind.{flat_map-append}
use Rattle.rly_segment.proofs.HeadBytes.{head_parts}

abbrev entry : HeadForm → Item Stored → List ℕ
entry which = entry_spelled stored_length (stored_spelled which)

abbrev spelled_hop : HeadForm → HopState Stored → List ℕ
spelled_hop which = hop_spelled stored_length (stored_spelled which)

-- ---- two functions of payloads that agree, the first after the addresses were set

module _ (Stands : ℕ → List ℕ → Type 0) (parts : (at : ℕ) (a b : List ℕ) → Stands at (a ++ b) → Stands at a × Stands (at + length a) b) where
  -- a hop's entries follow its numbers
  lines_stand : (which : HeadForm) (at : ℕ) (h : _) → Stands at (spelled_hop which h) → Stands (at + hop_width which) (flat_map (entry which) (live_line h))
  unfolding hop_spelled codel_of
  lines_stand First at h stands = (parts at (take 71 (spelled_hop First h)) (flat_map (entry First) (live_line h)) stands).1
  lines_stand Second at h stands = (parts at (take 64 (spelled_hop Second h)) (flat_map (entry Second) (live_line h)) stands).1

  module _ (which : HeadForm) {A : Type 0} (f f' : Stored → A)
      (kept : (at : ℕ) (item : Item Stored) → Stands at (entry which item) → f (stored_in_head (at + entry_width which) item.payload) ≡ f' item.payload) where
    items_kept : (at : ℕ) (items : List (Item Stored)) → Stands at (flat_map (entry which) items)
        → map (map_item f) (items_in_head which at items) ≡ map (map_item f') items
    items_kept at [] stands = refl
    items_kept at (item ∷ items) stands =
        let both = parts at (entry which item) (flat_map (entry which) items) stands in
        cc (kept at item both.0, items_kept (at + length (entry which item)) items both.1)

    hops_kept : (at : ℕ) (hops : List (HopState Stored)) → Stands at (flat_map (spelled_hop which) hops)
        → map (map_hop f) (hops_in_head which at hops) ≡ map (map_hop f') hops
    hops_kept at [] stands = refl
    hops_kept at (h ∷ hops) stands =
        let both = parts at (spelled_hop which h) (flat_map (spelled_hop which) hops) stands in
        let place : ℕ = at + hop_width which in
        let lines = parts place (flat_map (entry which) h.flight) (flat_map (entry which) h.queue) (rw flat_map-append at (lines_stand which at h both.0)) in
        let queue = items_kept (place + length (flat_map (entry which) h.flight)) h.queue lines.1 in
        cc (items_kept place h.flight lines.0, queue, hops_kept (at + length (spelled_hop which h)) hops both.1)

    -- the offsets of a head's hops
    pub maps_settled : (g : Geometry) (segment : ℕ) (s : State Stored)
        → Stands (segment_place g segment + 21 + 8 * length s.lasts) (flat_map (spelled_hop which) s.hops)
        → map_state f (state_in_head which g segment s) ≡ map_state f' s
    maps_settled g segment s stands = cc (hops_kept (segment_place g segment + 21 + 8 * length s.lasts) s.hops stands)

-- ---- over an image with the head, the state with addresses recovers to the same state

-- bytes after others are the slice there
sliced : (image : List ℕ) (at : ℕ) (front bytes : List ℕ) → StandsAt image at (front ++ bytes)
    → slice_range image (at + length front) (at + length front + length bytes) ≡ bytes
sliced image at front bytes stands =
    let size : at + length front + length bytes - (at + length front) ≡ length bytes = omega arith in rw size (stands_back image at front bytes stands)

-- an inline payload follows the other fields of its entry
settled_in : (which : HeadForm) (image : List ℕ) (at id stamp limit : ℕ) (p : Stored)
    → StandsAt image at (entry which (record { id = id; stamp = stamp; limit = limit; payload = p }))
    → payload_in image (stored_in_head (at + entry_width which) p) ≡ payload_in image p
unfolding entry_spelled
settled_in First image at id stamp limit (Inline (byte ∷ bytes)) stands =
    sliced image at (big_bytes 8 id ++ big_bytes 8 stamp ++ big_bytes 2 (length (byte ∷ bytes)) ++ 0 ∷ []) (byte ∷ bytes) stands
settled_in Second image at id stamp limit (Inline (byte ∷ bytes)) stands =
    sliced image at (big_bytes 6 id ++ big_bytes 7 stamp ++ big_bytes 5 limit ++ big_bytes 2 (length (byte ∷ bytes)) ++ 0 ∷ []) (byte ∷ bytes) stands
settled_in which image at id stamp limit p stands = refl

pub settled_stands : (which : HeadForm) (image : List ℕ) (g : Geometry) (segment generation : ℕ) (s : State Stored)
    → HoldsHeadOf stored_length (stored_spelled which) image g segment generation s → state_in image (state_in_head which g segment s) ≡ state_in image s
unfolding state_spelled
settled_stands which image g segment generation s holds =
    let place : ℕ = segment_place g segment + 13 in
    let front : List ℕ = big_bytes 8 s.seq ++ flat_map (big_bytes 8) s.lasts in
    let size : place + length front ≡ segment_place g segment + 21 + 8 * length s.lasts = omega (arith, length-numbers s.lasts) in
    maps_settled (StandsAt image) (λ at a b both. (stands_front image at a b both, stands_back image at a b both)) which (payload_in image) (payload_in image)
    (λ at item. settled_in which image at item.id item.stamp item.limit item.payload) g segment s
    (rw size at (stands_back image place front (flat_map (spelled_hop which) s.hops) (head_parts holds).1))

-- ---- it has the same lengths, and no inline bytes

module _ (which : HeadForm) (g : Geometry) (segment : ℕ) (s : State Stored) where
  -- at any offset
  anywhere : {A : Type 0} (f f' : Stored → A) → ((at : ℕ) (p : _) → f (stored_in_head at p) ≡ f' p) → map_state f (state_in_head which g segment s) ≡ map_state f' s
  anywhere f f' same = maps_settled (λ at bytes. Unit {0}) (λ at a b all. (tt, tt)) which f f' (λ at item all. same _ item.payload) g segment s tt

  pub head_lengths : map_state stored_length (state_in_head which g segment s) ≡ map_state stored_length s
  head_lengths = anywhere stored_length stored_length (λ at p. grind arith)

  pub settled_sound : IsSound stored_length s → IsSound stored_length (state_in_head which g segment s)
  settled_sound = sound_alike stored_length stored_length s (state_in_head which g segment s) (sym head_lengths)

  pub settled_inline : inline_bytes (state_in_head which g segment s) ≡ 0
  settled_inline = bytes_alike inline_length (λ p. 0) _ s (anywhere inline_length (λ p. 0) (λ at p. grind arith)) ∙ bytes_none (λ p. 0) (λ p. refl) s
