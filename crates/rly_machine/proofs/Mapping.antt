-- Each step commutes with a map of payloads that keeps lengths.
use Rattle.std.proofs.Common.{ℕ, ◌≡◌, ◌+◌, ◌-◌, ◌^◌, List, [], ◌∷◌, ◌++◌, not, cond, ◌||◌, ◌&&◌, take, length, get_or, set, drop, map, refl, arith, sym, ◌∙◌, ap, sum_by, zero, suc, Option, Some, None, max}
use Rattle.std.specs.Prelude.{nat_lt, nat_le, nat_eq}
use Rattle.std.specs.List.{prefix_len}
use Rattle.std.proofs.lemmas.List.{length-map, length-append, map-set, map-append, drop-map, take-map}
use Rattle.std.proofs.lemmas.List.Sums.{sum_by-cons}
use Rattle.rly_codel.specs.Cases.{DequeueOutcome, dequeue_of}
use Rattle.rly_codel.specs.LaneItems.{LaneItem}
use Rattle.rly_codel.specs.declared.state.CodelState.{CodelState}
use Rattle.rly_core.specs.declared.ids.HopId.{HopId}
use Rattle.rly_core.specs.declared.ids.PeerId.{PeerId}
use Rattle.rly_core.specs.declared.params.Params.{Params}
use Rattle.rly_core.specs.declared.refusal.Refusal.TheVariants.{NoSuchPeer, NoSuchHop, BadMoment, TooLong, Gap, Full, WindowFull, Empty, Spent, NeverSent}
use Rattle.rly_machine.specs.declared.command.Command.{Command}
use Rattle.rly_machine.specs.declared.command.Command.TheVariants.{Take, Pick, Release}
use Rattle.rly_machine.specs.declared.hop.Item.{Item}
use Rattle.rly_machine.specs.declared.reply.Reply.{Reply}
use Rattle.rly_machine.specs.declared.reply.Reply.TheVariants.{Taken, Already, Released, Unchanged, Refused}
use Rattle.rly_machine.specs.State.{State, HopState, is_among, has_peer, hop_at, last_at, live_line, live_items, live_bytes, bytes_of, new_hop}
use Rattle.rly_machine.specs.Accepted.{accept, max_seq, unless}
use Rattle.rly_machine.specs.Expiry.{after_expiry, expired_count, is_expired, with_expired}
use Rattle.rly_machine.specs.Pick.{after_pick, outcome_of, pick_outcome, pick_refusal, pick_reply, picked_reply, waiting_of, with_picked}
use Rattle.rly_machine.specs.Release.{covered_count, release_refusal, with_released}
use Rattle.rly_machine.specs.Take.{take_refusal, with_taken}
use Rattle.rly_machine.specs.Step.{step}
use Rattle.rly_machine.specs.Map.{map_item, map_hop, map_state, map_command}

-- an element of a mapped list, past its end too
pub get_mapped : {X Y : Type 0} (f : X → Y) (xs : List X) (i : ℕ) (d : X) → get_or (map f xs) i (f d) ≡ f (get_or xs i d)
get_mapped f [] i d = refl
get_mapped f (x ∷ xs) zero d = refl
get_mapped f (x ∷ xs) (suc i) d = get_mapped f xs i d

-- a sum over a mapped list with the same terms
pub sum_mapped : {X Y : Type 0} (g : X → ℕ) (h : Y → ℕ) (f : X → Y) → ((x : X) → h (f x) ≡ g x) → (xs : List X) → sum_by h (map f xs) ≡ sum_by g xs
sum_mapped g h f same [] = refl
sum_mapped g h f same (x ∷ xs) =
    let e = same x in
    let rest = sum_mapped g h f same xs in
    omega (arith, sum_by-cons h (f x) (map f xs), sum_by-cons g x xs, e, rest)

mapped_hop_at : {P Q : Type 0} (f : P → Q) (s : State P) (hop : HopId) → hop_at (map_state f s) hop ≡ map_hop f (hop_at s hop)
mapped_hop_at f s hop = get_mapped (map_hop f) s.hops (hop.0 - 1) new_hop

pub mapped_items : {P Q : Type 0} (f : P → Q) (s : State P) → live_items (map_state f s) ≡ live_items s
mapped_items {P} {Q} f s = sum_mapped (λ (h : HopState P). length (live_line h)) (λ (h : HopState Q). length (live_line h)) (map_hop f)
    (λ h. omega (arith, length-append h.flight h.queue, length-append (map (map_item f) h.flight) (map (map_item f) h.queue), length-map h.flight (map_item f), length-map h.queue (map_item f))) s.hops

mapped_bytes_of : {P Q : Type 0} (len : P → ℕ) (len' : Q → ℕ) (f : P → Q) → ((p : P) → len' (f p) ≡ len p) → (h : HopState P)
    → bytes_of len' (live_line (map_hop f h)) ≡ bytes_of len (live_line h)
mapped_bytes_of {P} {Q} len len' f same h =
    ap (bytes_of len') (sym (map-append (map_item f) h.flight h.queue))
    ∙ sum_mapped (λ (item : Item P). len item.payload) (λ (item : Item Q). len' item.payload) (map_item f) (λ item. same item.payload) (h.flight ++ h.queue)

pub mapped_bytes : {P Q : Type 0} (len : P → ℕ) (len' : Q → ℕ) (f : P → Q) → ((p : P) → len' (f p) ≡ len p) → (s : State P)
    → live_bytes len' (map_state f s) ≡ live_bytes len s
mapped_bytes {P} {Q} len len' f same s = sum_mapped (λ (h : HopState P). bytes_of len (live_line h)) (λ (h : HopState Q). bytes_of len' (live_line h)) (map_hop f) (mapped_bytes_of len len' f same) s.hops

-- the reply of a check is the same, and an accepted command leads to the mapped state
mapped_unless : {P Q : Type 0} (f : P → Q) (refusal refusal' : Option Reply) (s : State P) (after : State P × Reply) (after' : State Q × Reply)
    → refusal' ≡ refusal → after' ≡ (map_state f after.0, after.1)
    → unless refusal' (map_state f s) after' ≡ (map_state f (unless refusal s after).0, (unless refusal s after).1)
mapped_unless {P} {Q} f refusal refusal' s after after' same mapped =
    ap (λ r. unless r (map_state f s) after') same ∙ ap (unless refusal (map_state f s)) mapped ∙ by_cases refusal
  where
    by_cases : (r : Option Reply) → unless r (map_state f s) (map_state f after.0, after.1) ≡ (map_state f (unless r s after).0, (unless r s after).1)
    by_cases None = refl
    by_cases (Some reply) = refl

mapped_take_refusal : {P Q : Type 0} (len : P → ℕ) (len' : Q → ℕ) (f : P → Q) → ((p : P) → len' (f p) ≡ len p) → (s : State P) (peer : PeerId) (number : ℕ) (hop : HopId) (stamp limit : ℕ) (payload : P)
    → take_refusal len' (map_state f s) peer number hop stamp limit (len' (f payload)) ≡ take_refusal len s peer number hop stamp limit (len payload)
mapped_take_refusal {P} {Q} len len' f same s peer number hop stamp limit payload =
    let row : ℕ → ℕ → ℕ → ℕ → Option Reply = λ hops items live bytes.
    cond (not (has_peer s peer)) (Some (Refused NoSuchPeer))
    (cond (not (is_among hops hop.0)) (Some (Refused NoSuchHop))
    (cond (nat_le (2 ^ 52) stamp) (Some (Refused BadMoment))
    (cond (nat_le (2 ^ 40) limit) (Some (Refused BadMoment))
    (cond (nat_lt s.params.payload bytes) (Some (Refused TooLong))
    (cond (nat_le number (last_at s peer)) (Some (Already (last_at s peer)))
    (cond (nat_lt (last_at s peer + 1) number) (Some (Refused (Gap (last_at s peer + 1))))
    (cond (nat_le s.params.items items || nat_lt s.params.bytes (live + bytes)) (Some (Refused Full))
    (cond (nat_le max_seq s.seq) (Some (Refused Spent)) None)))))))) in
    ap (λ n. row n (live_items (map_state f s)) (live_bytes len' (map_state f s)) (len' (f payload))) (length-map s.hops (map_hop f))
    ∙ ap (λ n. row (length s.hops) n (live_bytes len' (map_state f s)) (len' (f payload))) (mapped_items f s)
    ∙ ap (λ n. row (length s.hops) (live_items s) n (len' (f payload))) (mapped_bytes len len' f same s)
    ∙ ap (row (length s.hops) (live_items s) (live_bytes len s)) (same payload)

-- the hops of a mapped state with one of them replaced
mapped_accept : {P Q : Type 0} (f : P → Q) (s : State P) (hop : HopId) (change : HopState P → HopState P) (change' : HopState Q → HopState Q)
    → ((h : HopState P) → change' (map_hop f h) ≡ map_hop f (change h))
    → accept (map_state f s) hop (change' (hop_at (map_state f s) hop)) ≡ map_state f (accept s hop (change (hop_at s hop)))
mapped_accept {P} {Q} f s hop change change' same =
    let with_hops : List (HopState Q) → State Q = λ hops. record { params = s.params; hops = hops; lasts = s.lasts; seq = s.seq + 1 } in
    ap (λ h. with_hops (set (map (map_hop f) s.hops) (hop.0 - 1) h)) (ap change' (mapped_hop_at f s hop) ∙ same (hop_at s hop))
    ∙ ap with_hops (sym (map-set (map_hop f) s.hops (hop.0 - 1) (change (hop_at s hop))))

mapped_with_taken : {P Q : Type 0} (f : P → Q) (id stamp limit : ℕ) (payload : P) (h : HopState P) → with_taken (map_hop f h) id stamp limit (f payload) ≡ map_hop f (with_taken h id stamp limit payload)
mapped_with_taken {P} {Q} f id stamp limit payload h =
    let with_queue : List (Item Q) → HopState Q = λ queue. record (map_hop f h) { queue = queue; moment = max stamp h.moment; taken = h.taken + 1 } in
    ap with_queue (sym (map-append (map_item f) h.queue (record { id = id; stamp = max stamp h.moment; limit = limit; payload = payload } ∷ [])))

mapped_with_released : {P Q : Type 0} (f : P → Q) (count : ℕ) (h : HopState P) → with_released (map_hop f h) count ≡ map_hop f (with_released h count)
mapped_with_released {P} {Q} f count h =
    let with_flight : List (Item Q) → HopState Q = λ flight. record (map_hop f h) { flight = flight; released = h.released + count } in
    ap with_flight (drop-map (map_item f) count h.flight)

mapped_release_refusal : {P Q : Type 0} (f : P → Q) (s : State P) (hop : HopId) (number : ℕ) → release_refusal (map_state f s) hop number ≡ release_refusal s hop number
mapped_release_refusal {P} {Q} f s hop number =
    let row : ℕ → ℕ → ℕ → Option Reply = λ hops released flight.
    cond (not (is_among hops hop.0)) (Some (Refused NoSuchHop))
    (cond (nat_le (released + flight + 1) number) (Some (Refused NeverSent))
    (cond (nat_eq (number - released) 0) (Some Unchanged)
    (cond (nat_le max_seq s.seq) (Some (Refused Spent)) None))) in
    let h = hop_at s hop in
    ap (λ n. row n (hop_at (map_state f s) hop).released (length (hop_at (map_state f s) hop).flight)) (length-map s.hops (map_hop f))
    ∙ ap (λ (h : HopState Q). row (length s.hops) h.released (length h.flight)) (mapped_hop_at f s hop)
    ∙ ap (row (length s.hops) h.released) (length-map h.flight (map_item f))

-- CoDel sees the same items in a mapped queue
mapped_waiting : {P Q : Type 0} (len : P → ℕ) (len' : Q → ℕ) (f : P → Q) → ((p : P) → len' (f p) ≡ len p) → (queue : List (Item P)) → waiting_of len' (map (map_item f) queue) ≡ waiting_of len queue
mapped_waiting len len' f same [] = refl
mapped_waiting {P} len len' f same (item ∷ behind) =
    ap (λ n. let w : LaneItem = record { stamp = item.stamp; bytes = n } in w ∷ waiting_of len' (map (map_item f) behind)) (same item.payload)
    ∙ ap (λ rest. let w : LaneItem = record { stamp = item.stamp; bytes = len item.payload } in w ∷ rest) (mapped_waiting len len' f same behind)

mapped_with_picked : {P Q : Type 0} (f : P → Q) (now : ℕ) (outcome : DequeueOutcome) (h : HopState P) → with_picked (map_hop f h) now outcome ≡ map_hop f (with_picked h now outcome)
mapped_with_picked {P} {Q} f now outcome h =
    let n : ℕ = outcome.dropped in
    let with_lists : List (Item Q) → List (Item Q) → HopState Q = λ queue flight. record (map_hop f h) { queue = queue; flight = flight; codel = outcome.state; moment = max now h.moment; dropped = h.dropped + outcome.dropped } in
    let rest = drop-map (map_item f) outcome.dropped h.queue in
    ap (λ r. with_lists (drop 1 r) (map (map_item f) h.flight ++ take 1 r)) rest
    ∙ ap (λ q. with_lists q (map (map_item f) h.flight ++ take 1 (map (map_item f) (drop outcome.dropped h.queue)))) (drop-map (map_item f) 1 (drop outcome.dropped h.queue))
    ∙ ap (λ q. with_lists (map (map_item f) (drop 1 (drop outcome.dropped h.queue))) (map (map_item f) h.flight ++ q)) (take-map (map_item f) 1 (drop outcome.dropped h.queue))
    ∙ ap (with_lists (map (map_item f) (drop 1 (drop outcome.dropped h.queue)))) (sym (map-append (map_item f) h.flight (take 1 (drop outcome.dropped h.queue))))

mapped_ids : {P Q : Type 0} (f : P → Q) (items : List (Item P)) → map (λ (item : Item Q). item.id) (map (map_item f) items) ≡ map (λ (item : Item P). item.id) items
mapped_ids f [] = refl
mapped_ids {P} {Q} f (item ∷ items) = ap (λ ids. item.id ∷ ids) (mapped_ids f items)

mapped_picked_reply : {P Q : Type 0} (f : P → Q) (number : ℕ) (expired dropped : List ℕ) (items : List (Item P))
    → picked_reply number expired dropped (map (map_item f) items) ≡ picked_reply number expired dropped items
mapped_picked_reply f number expired dropped [] = refl
mapped_picked_reply f number expired dropped (item ∷ items) = refl

mapped_front : {P Q : Type 0} (f : P → Q) (count : ℕ) (items : List (Item P))
    → map (λ (item : Item Q). item.id) (take count (map (map_item f) items)) ≡ map (λ (item : Item P). item.id) (take count items)
mapped_front {P} {Q} f count items = ap (map (λ (item : Item Q). item.id)) (take-map (map_item f) count items) ∙ mapped_ids f (take count items)

mapped_pick_reply : {P Q : Type 0} (f : P → Q) (h : HopState P) (late count : ℕ) → pick_reply (map_hop f h) late count ≡ pick_reply h late count
mapped_pick_reply {P} {Q} f h late count =
    let number : ℕ = h.released + length h.flight + 1 in
    let ids : List (Item Q) → List ℕ = map (λ (item : Item Q). item.id) in
    let rest : List (Item P) = drop late h.queue in
    let left : List ℕ → ℕ → List (Item Q) → Reply = λ expired n q. picked_reply n expired (ids (take count q)) (drop count q) in
    ap (λ n. left (ids (take late (map (map_item f) h.queue))) (h.released + n + 1) (drop late (map (map_item f) h.queue))) (length-map h.flight (map_item f))
    ∙ ap (λ expired. left expired number (drop late (map (map_item f) h.queue))) (mapped_front f late h.queue)
    ∙ ap (left (map (λ (item : Item P). item.id) (take late h.queue)) number) (drop-map (map_item f) late h.queue)
    ∙ ap (λ dropped. picked_reply number (map (λ (item : Item P). item.id) (take late h.queue)) dropped (drop count (map (map_item f) rest))) (mapped_front f count rest)
    ∙ ap (picked_reply number (map (λ (item : Item P). item.id) (take late h.queue)) (map (λ (item : Item P). item.id) (take count rest))) (drop-map (map_item f) count rest)
    ∙ mapped_picked_reply f number (map (λ (item : Item P). item.id) (take late h.queue)) (map (λ (item : Item P). item.id) (take count rest)) (drop count rest)

-- a mapped queue has the same number of expired items
mapped_prefix : {P Q : Type 0} (f : P → Q) (now : ℕ) (queue : List (Item P)) → prefix_len (is_expired now) (map (map_item f) queue) ≡ prefix_len (is_expired now) queue
mapped_prefix f now [] = refl
mapped_prefix f now (item ∷ behind) = ap (λ n. cond (is_expired now item) (1 + n) 0) (mapped_prefix f now behind)

mapped_with_expired : {P Q : Type 0} (f : P → Q) (count : ℕ) (h : HopState P) → with_expired (map_hop f h) count ≡ map_hop f (with_expired h count)
mapped_with_expired {P} {Q} f count h =
    let with_queue : List (Item Q) → HopState Q = λ queue. record (map_hop f h) { queue = queue; expired = h.expired + count } in
    ap with_queue (drop-map (map_item f) count h.queue)

mapped_expired_count : {P Q : Type 0} (f : P → Q) (now : ℕ) (h : HopState P) → expired_count (map_hop f h) now ≡ expired_count h now
mapped_expired_count f now h = mapped_prefix f (max now h.moment) h.queue

mapped_after_expiry : {P Q : Type 0} (f : P → Q) (now : ℕ) (h : HopState P) → after_expiry (map_hop f h) now ≡ map_hop f (after_expiry h now)
mapped_after_expiry f now h = ap (with_expired (map_hop f h)) (mapped_expired_count f now h) ∙ mapped_with_expired f (expired_count h now) h

-- CoDel's decision for a mapped hop, and the hop after the pick
mapped_outcome : {P Q : Type 0} (len : P → ℕ) (len' : Q → ℕ) (f : P → Q) → ((p : P) → len' (f p) ≡ len p) → (params : Params) (now : ℕ) (h : HopState P)
    → pick_outcome len' params (map_hop f h) now ≡ pick_outcome len params h now
mapped_outcome {P} {Q} len len' f same params now h =
    ap (λ (g : HopState Q). outcome_of len' params g now) (mapped_after_expiry f now h)
    ∙ ap (λ q. dequeue_of params (max now h.moment) q h.codel) (mapped_waiting len len' f same (drop (expired_count h now) h.queue))

mapped_after_pick : {P Q : Type 0} (len : P → ℕ) (len' : Q → ℕ) (f : P → Q) → ((p : P) → len' (f p) ≡ len p) → (params : Params) (now : ℕ) (h : HopState P)
    → after_pick len' params (map_hop f h) now ≡ map_hop f (after_pick len params h now)
mapped_after_pick {P} {Q} len len' f same params now h =
    ap (with_picked (after_expiry (map_hop f h) now) now) (mapped_outcome len len' f same params now h)
    ∙ ap (λ (g : HopState Q). with_picked g now (pick_outcome len params h now)) (mapped_after_expiry f now h)
    ∙ mapped_with_picked f now (pick_outcome len params h now) (after_expiry h now)

mapped_pick_refusal : {P Q : Type 0} (f : P → Q) (s : State P) (hop : HopId) (now : ℕ) → pick_refusal (map_state f s) hop now ≡ pick_refusal s hop now
mapped_pick_refusal {P} {Q} f s hop now =
    let row : ℕ → ℕ → ℕ → CodelState → Option Reply = λ hops flight queue codel.
    cond (not (is_among hops hop.0)) (Some (Refused NoSuchHop))
    (cond (nat_le (2 ^ 52) now) (Some (Refused BadMoment))
    (cond (nat_le s.params.window flight) (Some (Refused WindowFull))
    (cond (nat_eq queue 0 && (nat_eq codel.first_above_time 0 && not codel.dropping)) (Some (Refused Empty))
    (cond (nat_le max_seq s.seq) (Some (Refused Spent)) None)))) in
    let h = hop_at s hop in
    ap (λ n. row n (length (hop_at (map_state f s) hop).flight) (length (hop_at (map_state f s) hop).queue) (hop_at (map_state f s) hop).codel) (length-map s.hops (map_hop f))
    ∙ ap (λ (h : HopState Q). row (length s.hops) (length h.flight) (length h.queue) h.codel) (mapped_hop_at f s hop)
    ∙ ap (λ n. row (length s.hops) n (length (map (map_item f) h.queue)) h.codel) (length-map h.flight (map_item f))
    ∙ ap (λ n. row (length s.hops) (length h.flight) n h.codel) (length-map h.queue (map_item f))

-- one step
pub mapped_step : {P Q : Type 0} (len : P → ℕ) (len' : Q → ℕ) (f : P → Q) → ((p : P) → len' (f p) ≡ len p) → (s : State P) (command : Command P)
    → step len' (map_state f s) (map_command f command) ≡ (map_state f (step len s command).0, (step len s command).1)
mapped_step {P} {Q} len len' f same s (Take peer number hop stamp limit payload) =
    mapped_unless f _ _ s _ _ (mapped_take_refusal len len' f same s peer number hop stamp limit payload)
    (ap (λ (t : State Q). let r : State Q × Reply = (record t { lasts = set s.lasts (peer.0 - 1) number }, Taken (s.seq + 1)) in r)
    (mapped_accept f s hop (λ h. with_taken h (s.seq + 1) stamp limit payload) (λ h. with_taken h (s.seq + 1) stamp limit (f payload)) (mapped_with_taken f (s.seq + 1) stamp limit payload)))
mapped_step {P} {Q} len len' f same s (Pick hop now) =
    let h : HopState P = hop_at s hop in
    let answer : HopState Q → Reply = λ g. pick_reply g (expired_count g now) (pick_outcome len' s.params g now).dropped in
    let after : State Q = map_state f (accept s hop (after_pick len s.params (hop_at s hop) now)) in
    mapped_unless f _ _ s _ _ (mapped_pick_refusal f s hop now)
    (ap (λ (t : State Q). let r : State Q × Reply = (t, answer (hop_at (map_state f s) hop)) in r)
    (mapped_accept f s hop (λ h. after_pick len s.params h now) (λ h. after_pick len' s.params h now) (mapped_after_pick len len' f same s.params now))
    ∙ ap (λ (g : HopState Q). let r : State Q × Reply = (after, answer g) in r) (mapped_hop_at f s hop)
    ∙ ap (λ (reply : Reply). let r : State Q × Reply = (after, reply) in r)
    (ap (λ n. pick_reply (map_hop f h) n (pick_outcome len' s.params (map_hop f h) now).dropped) (mapped_expired_count f now h)
    ∙ ap (λ (o : DequeueOutcome). pick_reply (map_hop f h) (expired_count h now) o.dropped) (mapped_outcome len len' f same s.params now h)
    ∙ mapped_pick_reply f h (expired_count h now) (pick_outcome len s.params h now).dropped))
mapped_step {P} {Q} len len' f same s (Release hop number) =
    let count' : HopState Q → ℕ = λ h. covered_count h number in
    mapped_unless f _ _ s _ _ (mapped_release_refusal f s hop number)
    (ap (λ (t : State Q). let r : State Q × Reply = (t, Released (covered_count (hop_at (map_state f s) hop) number)) in r)
    (mapped_accept f s hop (λ h. with_released h (covered_count h number)) (λ h. with_released h (covered_count h number)) (λ h. mapped_with_released f (covered_count h number) h))
    ∙ ap (λ (h : HopState Q). let r : State Q × Reply = (map_state f (accept s hop (with_released (hop_at s hop) (covered_count (hop_at s hop) number))), Released (covered_count h number)) in r) (mapped_hop_at f s hop))
