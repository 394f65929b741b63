-- A Fetch returns the datagram that was picked under its number.
use Rattle.std.proofs.Common.{ℕ, ◌≡◌, ◌+◌, ◌-◌, ◌<◌, Bool, true, false, cond, not, List, [], ◌∷◌}
use Rattle.std.proofs.Common.{length, get_or, map, refl, arith, sym, ◌∙◌, ap, subst, Option, Some, None}
use Rattle.std.proofs.Common.{Result, Err}
use Rattle.std.specs.Prelude.{nat_le, slice_get}
use Rattle.std.specs.Option.{ok_or, option_map}
use Rattle.std.proofs.lemmas.Bool.{leb-false, lt-leb}
use Rattle.std.proofs.lemmas.List.{get_or-drop, length-drop, length-set}
use Rattle.std.proofs.lemmas.Option.{get_or_from_slice_get, slice_get-get_or, slice_get-map, slice_get_within}
use Rattle.rly_core.specs.declared.ids.HopId.{HopId}
use Rattle.rly_core.specs.declared.refusal.Refusal.{Refusal}
use Rattle.rly_core.specs.declared.refusal.Refusal.TheVariants.{NoSuchHop, NeverSent, NotInFlight}
use Rattle.rly_machine.specs.declared.command.Command.{Command}
use Rattle.rly_machine.specs.declared.command.Command.TheVariants.{Take, Pick, Release}
use Rattle.rly_machine.specs.declared.command.Query.TheVariants.{Fetch}
use Rattle.rly_machine.specs.declared.hop.Item.{Item}
use Rattle.rly_machine.specs.declared.reply.Reply.TheVariants.{Bytes, Refused}
use Rattle.rly_machine.specs.Fold.{fold}
use Rattle.rly_machine.specs.Pick.{pick_refusal}
use Rattle.rly_machine.specs.Query.{fetch_reply, query_reply}
use Rattle.rly_machine.specs.Release.{release_refusal}
use Rattle.rly_machine.specs.State.{State, HopState, has_hop, hop_at, is_among, new_hop, next_number}
use Rattle.rly_machine.specs.Step.{step}
use Rattle.rly_machine.specs.Take.{take_refusal}
use Rattle.rly_world.proofs.PairRuns.{Flows, either_way, length-borne, length-borne_by}
use Rattle.rly_world.specs.PairPayloads.{Numbered, number_and_payload, borne_by}

-- a payload and its limit are in a list under a number: at that position, counted from 1
pub record IsUnder {P : Type 0} (xs : List (Numbered P)) (number limit : ℕ) (payload : P) : Type 0 where
  pub counted : 0 < number
  pub found : slice_get xs (number - 1) ≡ Some (record { number = number; limit = limit; payload = payload })

-- no command adds or removes a hop
hops_step : {P : Type 0} (len : P → ℕ) (s : State P) (command : Command P)
    → length (step len s command).0.hops ≡ length s.hops
hops_step len s (Take from number to stamp limit payload) =
    either_way len s (Take from number to stamp limit payload)
    (take_refusal len s from number to stamp limit (len payload)) _ refl
    (λ after reply. length after.hops ≡ length s.hops) (λ reply refuses. refl) (λ none. length-set s.hops (to.0 - 1) _)
hops_step len s (Pick to now) =
    either_way len s (Pick to now) (pick_refusal s to now) _ refl
    (λ after reply. length after.hops ≡ length s.hops) (λ reply refuses. refl) (λ none. length-set s.hops (to.0 - 1) _)
hops_step len s (Release to number) =
    either_way len s (Release to number) (release_refusal s to number) _ refl
    (λ after reply. length after.hops ≡ length s.hops) (λ reply refuses. refl) (λ none. length-set s.hops (to.0 - 1) _)

pub hops_fold : {P : Type 0} (len : P → ℕ) (s : State P) (commands : List (Command P))
    → length (fold len s commands).hops ≡ length s.hops
hops_fold len s [] = refl
hops_fold len s (command ∷ commands) = hops_fold len (step len s command).0 commands ∙ hops_step len s command

pub hop_stays : {P : Type 0} (len : P → ℕ) (s : State P) (commands : List (Command P)) (hop : HopId)
    → has_hop s hop ≡ true → has_hop (fold len s commands) hop ≡ true
hop_stays len s commands hop there = ap (λ n. is_among n hop.0) (hops_fold len s commands) ∙ there

-- the number picked is the number released plus the number in flight
picked_count : {P : Type 0} (h : HopState P) (xs : List (Numbered P)) → Flows new_hop h xs
    → length xs ≡ h.released + length h.flight
picked_count {P} h xs flows =
    let same : length (borne_by h.flight) ≡ length (map number_and_payload xs) - (h.released - 0) =
    ap length flows.flight ∙ length-drop (h.released - 0) (map number_and_payload xs) in
    omega (arith, length-borne_by h.flight, same, length-borne xs, flows.within)

-- the item at a position in flight is that of the pick with that number after the released ones
flight_at : {P : Type 0} (h : HopState P) (xs : List (Numbered P)) (i : ℕ) (d : ℕ × P) → Flows new_hop h xs
    → get_or (borne_by h.flight) i d ≡ get_or (map number_and_payload xs) (h.released + i) d
flight_at {P} h xs i d flows =
    let all : List (ℕ × P) = map number_and_payload xs in
    ap (λ (l : List (ℕ × P)). get_or l i d) flows.flight
    ∙ get_or-drop (h.released - 0) all i d
    ∙ ap (λ n. get_or all n d) (let e : h.released - 0 + i ≡ h.released + i = omega arith in e)

-- the result of a Fetch was picked
under_of : {P : Type 0} (xs : List (Numbered P)) (k limit : ℕ) (payload : P)
    → ((k : ℕ) (x : Numbered P) → slice_get xs k ≡ Some x → x.number ≡ k + 1)
    → k < length xs → get_or (map number_and_payload xs) k (limit, payload) ≡ (limit, payload) → IsUnder xs (k + 1) limit payload
under_of {P} xs k limit payload numbered below at =
    let d : Numbered P = record { number = k + 1; limit = limit; payload = payload } in
    let one : Numbered P = get_or xs k d in
    let there : slice_get xs k ≡ Some (get_or xs k d) = slice_get-get_or xs k d below in
    let number_is : (get_or xs k d).number ≡ k + 1 = numbered k (get_or xs k d) there in
    let in_map : slice_get (map number_and_payload xs) k ≡ Some (number_and_payload (get_or xs k d)) =
    slice_get-map (number_and_payload {P = P}) xs k ∙ ap (λ (o : Option (Numbered P)). option_map (number_and_payload {P = P}) o) there in
    let same : number_and_payload (get_or xs k d) ≡ (limit, payload) =
    sym (get_or_from_slice_get (map number_and_payload xs) k (number_and_payload (get_or xs k d)) (limit, payload) in_map) ∙ at in
    record {
      counted = omega arith;
      found = ap (slice_get xs) (let e : k + 1 - 1 ≡ k = omega arith in e) ∙ there
          ∙ ap (λ (n : ℕ). let o : Option (Numbered P) = Some
          (record { number = n; limit = (get_or xs k d).limit; payload = (get_or xs k d).payload }) in o) number_is
          ∙ ap (λ (q : ℕ × P). let o : Option (Numbered P) = Some
          (record { number = k + 1; limit = q.0; payload = q.1 }) in o) same;
    }

-- the first reply that isn't a refusal
not_refused : (b : Bool) (refusal : Refusal) (rest : Result (Item (List ℕ)) Refusal) (payload : List ℕ) (limit : ℕ)
    → fetch_reply (cond b (Err refusal) rest) ≡ Bytes payload limit
    → (b ≡ false) × (fetch_reply rest ≡ Bytes payload limit)
not_refused true refusal rest payload limit is = absurd (let e : Refused refusal ≡ Bytes payload limit = is in cc)
not_refused false refusal rest payload limit is = (refl, is)

-- the payload and limit of an item, with the type of `borne_by`
abbrev borne_item : Item (List ℕ) → ℕ × List ℕ
borne_item item = (item.limit, item.payload)

item_given : (o : Option (Item (List ℕ))) (payload : List ℕ) (limit : ℕ)
    → fetch_reply (ok_or o NotInFlight) ≡ Bytes payload limit
    → option_map borne_item o ≡ Some (limit, payload)
item_given None payload limit is = absurd (let e : Refused NotInFlight ≡ Bytes payload limit = is in cc)
item_given (Some item) payload limit is =
    let e : Bytes item.payload item.limit ≡ Bytes payload limit = is in
    let same : item.payload ≡ payload = (cc) in
    let limit_is : item.limit ≡ limit = (cc) in
    ap (λ (n : ℕ). let o : Option (ℕ × List ℕ) = Some (n, item.payload) in o) limit_is
    ∙ ap (λ (p : List ℕ). let o : Option (ℕ × List ℕ) = Some (limit, p) in o) same

pub fetched_is_picked : (s : State (List ℕ)) (hop : HopId) (number : ℕ) (payload : List ℕ) (limit : ℕ)
    (xs : List (Numbered (List ℕ)))
    → Flows new_hop (hop_at s hop) xs → query_reply s (Fetch hop number) ≡ Bytes payload limit
    → IsUnder xs number limit payload
fetched_is_picked s hop number payload limit xs flows is =
    let a = not_refused (not (has_hop s hop)) NoSuchHop _ payload limit is in
    let b = not_refused (nat_le (next_number (hop_at s hop)) number) NeverSent _ payload limit a.1 in
    let c = not_refused (nat_le number (hop_at s hop).released) NotInFlight _ payload limit b.1 in
    let sent : number < (hop_at s hop).released + length (hop_at s hop).flight + 1 = leb-false _ _ b.0 in
    let kept : (hop_at s hop).released < number = leb-false _ _ c.0 in
    let both : ℕ × List ℕ = (limit, payload) in
    let all : List (ℕ × List ℕ) = map number_and_payload xs in
    let given = item_given (slice_get (hop_at s hop).flight (number - (hop_at s hop).released - 1)) payload limit c.1 in
    let in_flight : slice_get (borne_by (hop_at s hop).flight)
    (number - (hop_at s hop).released - 1) ≡ Some (limit, payload) =
    slice_get-map borne_item (hop_at s hop).flight (number - (hop_at s hop).released - 1) ∙ given in
    let at : get_or (map number_and_payload xs) (number - 1) (limit, payload) ≡ (limit, payload) =
    ap (λ n. get_or all n both)
    (let e : number - 1 ≡ (hop_at s hop).released + (number - (hop_at s hop).released - 1) = omega
    (arith, kept) in e)
    ∙ sym (flight_at (hop_at s hop) xs (number - (hop_at s hop).released - 1) (limit, payload) flows)
    ∙ get_or_from_slice_get (borne_by (hop_at s hop).flight)
    (number - (hop_at s hop).released - 1) (limit, payload) (limit, payload) in_flight in
    subst (λ n. IsUnder xs n limit payload) (let e : number - 1 + 1 ≡ number = omega (arith, kept) in e)
    (under_of xs (number - 1) limit payload (λ k x found. (let e = flows.numbered k x found in omega (arith, e)))
    (omega (arith, sent, kept, picked_count (hop_at s hop) xs flows)) at)

-- no item
no_item : Item (List ℕ)
no_item = record { id = 0; stamp = 0; limit = 0; payload = [] }

-- a Fetch returns each picked datagram that isn't released, with its limit
pub picked_is_fetched : (s : State (List ℕ)) (hop : HopId) (k : ℕ) (one : Numbered (List ℕ))
    (xs : List (Numbered (List ℕ)))
    → has_hop s hop ≡ true → Flows new_hop (hop_at s hop) xs → slice_get xs k ≡ Some one
    → (hop_at s hop).released < one.number
    → query_reply s (Fetch hop one.number) ≡ Bytes one.payload one.limit
picked_is_fetched s hop k one xs there flows found kept =
    let place = flows.numbered k one found in
    let below = slice_get_within xs k one found in
    let count = picked_count (hop_at s hop) xs flows in
    let flight : List (Item (List ℕ)) = (hop_at s hop).flight in
    let i : ℕ = one.number - (hop_at s hop).released - 1 in
    let all : List (ℕ × List ℕ) = map number_and_payload xs in
    let in_map : slice_get (map number_and_payload xs) k ≡ Some (number_and_payload one) =
    slice_get-map (number_and_payload {P = List ℕ}) xs k
    ∙ ap (λ (o : Option (Numbered (List ℕ))). option_map (number_and_payload {P = List ℕ}) o) found in
    let at : get_or (borne_by (hop_at s hop).flight)
    (one.number - (hop_at s hop).released - 1) (number_and_payload one) ≡ number_and_payload one =
    flight_at (hop_at s hop) xs (one.number - (hop_at s hop).released - 1) (number_and_payload one) flows
    ∙ ap (λ n. get_or all n (number_and_payload one))
    (let e : (hop_at s hop).released + (one.number - (hop_at s hop).released - 1) ≡ k = omega
    (arith, kept, place) in e)
    ∙ get_or_from_slice_get (map number_and_payload xs) k (number_and_payload one) (number_and_payload one) in_map in
    let within : one.number - (hop_at s hop).released - 1 < length (hop_at s hop).flight = omega
    (arith, kept, place, below, count) in
    let there_is : slice_get (hop_at s hop).flight (one.number - (hop_at s hop).released - 1) ≡ Some
    (get_or (hop_at s hop).flight (one.number - (hop_at s hop).released - 1) no_item) =
    slice_get-get_or (hop_at s hop).flight (one.number - (hop_at s hop).released - 1) no_item within in
    let in_flight : slice_get (borne_by (hop_at s hop).flight)
    (one.number - (hop_at s hop).released - 1) ≡ Some
    (borne_item (get_or (hop_at s hop).flight (one.number - (hop_at s hop).released - 1) no_item)) =
    slice_get-map borne_item (hop_at s hop).flight (one.number - (hop_at s hop).released - 1)
    ∙ ap (option_map borne_item) there_is in
    let same : borne_item (get_or (hop_at s hop).flight (one.number - (hop_at s hop).released - 1) no_item)
    ≡ number_and_payload one =
    sym (get_or_from_slice_get (borne_by (hop_at s hop).flight) (one.number - (hop_at s hop).released - 1)
    (borne_item (get_or (hop_at s hop).flight (one.number - (hop_at s hop).released - 1) no_item)) (number_and_payload one)
    in_flight) ∙ at in
    let given = ap (λ (o : Option (Item (List ℕ))). fetch_reply (ok_or o NotInFlight)) there_is
    ∙ ap (λ (q : ℕ × List ℕ). Bytes q.1 q.0) same in
    let inner : Result (Item (List ℕ)) Refusal = ok_or
    (slice_get (hop_at s hop).flight (one.number - (hop_at s hop).released - 1)) NotInFlight in
    ap (λ b. fetch_reply
    (cond (not b) (Err NoSuchHop)
    (cond (nat_le (next_number (hop_at s hop)) one.number) (Err NeverSent)
    (cond (nat_le one.number (hop_at s hop).released) (Err NotInFlight) inner)))) there
    ∙ ap (λ b. fetch_reply
    (cond b (Err NeverSent) (cond (nat_le one.number (hop_at s hop).released) (Err NotInFlight) inner)))
    (lt-leb (next_number (hop_at s hop)) one.number (omega (arith, place, below, count)))
    ∙ ap (λ b. fetch_reply (cond b (Err NotInFlight) inner)) (lt-leb one.number (hop_at s hop).released kept)
    ∙ given
