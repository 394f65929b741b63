-- The replies to queries.
use Rattle.std.proofs.Common.{ℕ, ◌≡◌, ◌+◌, ◌-◌, Bool, true, false, cond, List, [], ◌∷◌, length, map, nat_eq, nat_le, zero, suc, refl, sym, ap, ◌∙◌}
use Rattle.std.specs.Prelude.{Result, Ok, Err, Option, Some, None, not, slice_get}
use Rattle.std.specs.Option.{ok_or}
use Rattle.std.proofs.lemmas.List.{length-map}
use Rattle.rly_core.specs.declared.ids.HopId.{HopId}
use Rattle.rly_core.specs.declared.refusal.Refusal.{Refusal}
use Rattle.rly_core.specs.declared.refusal.Refusal.TheVariants.{NeverSent, NoSuchHop, NotInFlight}
use Rattle.rly_machine.specs.Map.{map_hop, map_item, map_state}
use Rattle.rly_machine.specs.Query.{fetch_reply, item_of, show_reply, status_of, window_reply}
use Rattle.rly_machine.specs.State.{HopState, State, has_hop, hop_at, is_among, new_hop, next_number}
use Rattle.rly_machine.specs.declared.hop.Item.{Item}
use Rattle.rly_machine.specs.declared.reply.HopStatus.{HopStatus}
use Rattle.rly_machine.specs.declared.reply.Reply.{Reply}
use Rattle.rly_machine.specs.declared.reply.Reply.TheVariants.{Bytes, Refused, Shown, WindowIs}
use Rattle.rly_machine.proofs.Mapping.{get_mapped}
use Rattle.rly_segment_checkpoint.specs.Stored.{payload_in, state_in, stored_length}
use Rattle.rly_segment_checkpoint.specs.declared.stored.Stored.{Stored}
use Rattle.rly_journal_index.specs.IndexRelation.{IsAlike}

-- ---- for a state with mapped payloads

abbrev mapped : {P Q : Type 0} → (P → Q) → Result (Item P) Refusal → Result (Item Q) Refusal
mapped f (Ok item) = Ok (map_item f item)
mapped f (Err refusal) = Err refusal

got : {P Q : Type 0} (f : P → Q) (items : List (Item P)) (i : ℕ)
    → ok_or (slice_get (map (map_item f) items) i) NotInFlight ≡ mapped f (ok_or (slice_get items i) NotInFlight)
got f [] i = refl
got f (item ∷ items) zero = refl
got f (item ∷ items) (suc i) = got f items i

hop_mapped : {P Q : Type 0} (f : P → Q) (s : State P) (hop : HopId) → hop_at (map_state f s) hop ≡ map_hop f (hop_at s hop)
hop_mapped f s hop = get_mapped (map_hop f) s.hops (hop.0 - 1) new_hop

choose_mapped : {P Q : Type 0} (f : P → Q) (b : Bool) (x y : Result (Item P) Refusal) → cond b (mapped f x) (mapped f y) ≡ mapped f (cond b x y)
choose_mapped f true x y = refl
choose_mapped f false x y = refl

item_mapped : {P Q : Type 0} (f : P → Q) (s : State P) (hop : HopId) (number : ℕ) → item_of (map_state f s) hop number ≡ mapped f (item_of s hop number)
item_mapped {P} {Q} f s hop number =
    let h : HopState P = hop_at s hop in
    let row : ℕ → HopState Q → Result (Item Q) Refusal = λ hops k.
    cond (not (is_among hops hop.0)) (Err NoSuchHop)
    (cond (nat_le (next_number k) number) (Err NeverSent)
    (cond (nat_le number k.released) (Err NotInFlight)
    (ok_or (slice_get k.flight (number - k.released - 1)) NotInFlight))) in
    let ends : ℕ → Result (Item Q) Refusal → Result (Item Q) Refusal = λ sent found.
    cond (not (has_hop s hop)) (Err NoSuchHop)
    (cond (nat_le (h.released + sent + 1) number) (Err NeverSent)
    (cond (nat_le number h.released) (Err NotInFlight) found)) in
    let first : Result (Item P) Refusal = ok_or (slice_get h.flight (number - h.released - 1)) NotInFlight in
    let second : Result (Item P) Refusal = cond (nat_le number h.released) (Err NotInFlight) first in
    let third : Result (Item P) Refusal = cond (nat_le (next_number h) number) (Err NeverSent) second in
    ap (λ (n : ℕ). row n (hop_at (map_state f s) hop)) (length-map s.hops (map_hop f))
    ∙ ap (row (length s.hops)) (hop_mapped f s hop)
    ∙ ap (λ (n : ℕ). ends n (ok_or (slice_get (map (map_item f) h.flight) (number - h.released - 1)) NotInFlight)) (length-map h.flight (map_item f))
    ∙ ap (ends (length h.flight)) (got f h.flight (number - h.released - 1))
    ∙ ap (λ (r : Result (Item Q) Refusal). cond (not (has_hop s hop)) (Err NoSuchHop) (cond (nat_le (next_number h) number) (Err NeverSent) r))
    (choose_mapped f (nat_le number h.released) (Err NotInFlight) first)
    ∙ ap (λ (r : Result (Item Q) Refusal). cond (not (has_hop s hop)) (Err NoSuchHop) r) (choose_mapped f (nat_le (next_number h) number) (Err NeverSent) second)
    ∙ choose_mapped f (not (has_hop s hop)) (Err NoSuchHop) third

-- ---- for states that are alike

both_items : (s : State Stored) (t : State (List ℕ)) (hop : HopId) (number : ℕ) → IsAlike s t
    → mapped stored_length (item_of s hop number) ≡ mapped length (item_of t hop number)
both_items s t hop number alike =
    sym (item_mapped stored_length s hop number) ∙ ap (λ (u : State ℕ). item_of u hop number) alike ∙ item_mapped length t hop number

-- the payload's length in a reply and its limit, or none if there is none
abbrev found_told : Result (Item ℕ) Refusal → Option (ℕ × ℕ)
found_told (Ok item) = Some (item.payload, item.limit)
found_told (Err refusal) = None

abbrev refusal_told : Result (Item ℕ) Refusal → Option Refusal
refusal_told (Ok item) = None
refusal_told (Err refusal) = Some refusal

some_once : {A : Type 0} (x y : A) → Some x ≡ Some y → x ≡ y
some_once x y same = cc

none_some : {A : Type 0} (x : A) → Some x ≡ None → ⊥
none_some x same = absurd cc

told_found : (found : Result (Item (List ℕ)) Refusal) (n limit : ℕ) → Some (n, limit) ≡ found_told (mapped length found)
    → (payload : List ℕ) × (fetch_reply found ≡ Bytes payload limit) × (length payload ≡ n)
told_found (Ok item) n limit same =
    let both : ◌≡◌ {A = ℕ × ℕ} (n, limit) (length item.payload, item.limit) = some_once (n, limit) (length item.payload, item.limit) same in (
      item.payload,
      ap (λ (x : ℕ × ℕ). Bytes item.payload x.1) (sym both),
      sym (ap (λ (x : ℕ × ℕ). x.0) both),
    )
told_found (Err refusal) n limit same = absurd (none_some (n, limit) same)

pub found_alike : (s : State Stored) (t : State (List ℕ)) (hop : HopId) (number : ℕ) (item : Item Stored) → IsAlike s t → item_of s hop number ≡ Ok item
    → (payload : List ℕ) × (fetch_reply (item_of t hop number) ≡ Bytes payload item.limit) × (length payload ≡ stored_length item.payload)
found_alike s t hop number item alike is =
    told_found (item_of t hop number) (stored_length item.payload) item.limit
    (sym (ap (λ (r : Result (Item Stored) Refusal). found_told (mapped stored_length r)) is)
    ∙ ap (λ (r : Result (Item ℕ) Refusal). found_told r) (both_items s t hop number alike))

told_refused : (found : Result (Item (List ℕ)) Refusal) (refusal : Refusal) → Some refusal ≡ refusal_told (mapped length found) → fetch_reply found ≡ Refused refusal
told_refused (Ok item) refusal same = absurd (none_some refusal same)
told_refused (Err other) refusal same = ap (λ (r : Refusal). Refused r) (sym (some_once refusal other same))

pub refused_alike : (s : State Stored) (t : State (List ℕ)) (hop : HopId) (number : ℕ) (refusal : Refusal) → IsAlike s t → item_of s hop number ≡ Err refusal
    → fetch_reply (item_of t hop number) ≡ Refused refusal
refused_alike s t hop number refusal alike is =
    told_refused (item_of t hop number) refusal
    (sym (ap (λ (r : Result (Item Stored) Refusal). refusal_told (mapped stored_length r)) is)
    ∙ ap (λ (r : Result (Item ℕ) Refusal). refusal_told r) (both_items s t hop number alike))

-- the bytes of an image
pub found_bytes : (image : List ℕ) (s : State Stored) (t : State (List ℕ)) (hop : HopId) (number : ℕ) (item : Item Stored) → state_in image s ≡ t
    → item_of s hop number ≡ Ok item → fetch_reply (item_of t hop number) ≡ Bytes (payload_in image item.payload) item.limit
found_bytes image s t hop number item stands is =
    ap (λ (u : State (List ℕ)). fetch_reply (item_of u hop number)) (sym stands)
    ∙ ap (λ (r : Result (Item (List ℕ)) Refusal). fetch_reply r) (item_mapped (payload_in image) s hop number)
    ∙ ap (λ (r : Result (Item Stored) Refusal). fetch_reply (mapped (payload_in image) r)) is

-- ---- Window and Show

window_mapped : {P Q : Type 0} (f : P → Q) (s : State P) (hop : HopId) → window_reply (map_state f s) hop ≡ window_reply s hop
window_mapped {P} {Q} f s hop =
    let row : ℕ → ℕ → ℕ → Reply = λ hops released flight.
    cond (is_among hops hop.0) (WindowIs (cond (nat_eq flight 0) (released + flight + 1) (released + 1)) (released + flight + 1)) (Refused NoSuchHop) in
    ap (λ (n : ℕ). row n (hop_at (map_state f s) hop).released (length (hop_at (map_state f s) hop).flight)) (length-map s.hops (map_hop f))
    ∙ ap (λ (k : HopState Q). row (length s.hops) k.released (length k.flight)) (hop_mapped f s hop)
    ∙ ap (λ (n : ℕ). row (length s.hops) (hop_at s hop).released n) (length-map (hop_at s hop).flight (map_item f))

pub window_alike : (s : State Stored) (t : State (List ℕ)) (hop : HopId) → IsAlike s t → window_reply s hop ≡ window_reply t hop
window_alike s t hop alike = sym (window_mapped stored_length s hop) ∙ ap (λ (u : State ℕ). window_reply u hop) alike ∙ window_mapped length t hop

status_mapped : {P Q : Type 0} (f : P → Q) (h : HopState P) → status_of (map_hop f h) ≡ status_of h
status_mapped f h =
    let told : ℕ → ℕ → HopStatus = λ queued flight.
    record { taken = h.taken; queued = queued; flight = flight; dropped = h.dropped; expired = h.expired; released = h.released; codel = h.codel; moment = h.moment } in
    ap (λ (n : ℕ). told n (length (map (map_item f) h.flight))) (length-map h.queue (map_item f)) ∙ ap (told (length h.queue)) (length-map h.flight (map_item f))

show_mapped : {P Q : Type 0} (f : P → Q) (s : State P) (hop : HopId) → show_reply (map_state f s) hop ≡ show_reply s hop
show_mapped {P} {Q} f s hop =
    let row : ℕ → HopStatus → Reply = λ hops status. cond (is_among hops hop.0) (Shown status) (Refused NoSuchHop) in
    ap (λ (n : ℕ). row n (status_of (hop_at (map_state f s) hop))) (length-map s.hops (map_hop f))
    ∙ ap (λ (k : HopState Q). row (length s.hops) (status_of k)) (hop_mapped f s hop)
    ∙ ap (row (length s.hops)) (status_mapped f (hop_at s hop))

pub show_alike : (s : State Stored) (t : State (List ℕ)) (hop : HopId) → IsAlike s t → show_reply s hop ≡ show_reply t hop
show_alike s t hop alike = sym (show_mapped stored_length s hop) ∙ ap (λ (u : State ℕ). show_reply u hop) alike ∙ show_mapped length t hop
