-- The datagrams taken from a peer and those that went into flight, over any list of commands.
use Rattle.std.proofs.Common.{ℕ, ◌≡◌, ◌+◌, ◌-◌, ◌<◌, ◌≤◌, Bool, true, false, true≢false, cond, ◌⊎◌, inl, inr, List}
use Rattle.std.proofs.Common.{[], ◌∷◌, ◌++◌, length, get_or, set, take, drop, map, max, min, refl, arith, sym, ◌∙◌, ap}
use Rattle.std.proofs.Common.{subst, Option, Some, None, append_assoc, replicate}
use Rattle.std.specs.Prelude.{nat_eq, slice_get}
use Rattle.std.proofs.lemmas.Bool.{cases_eq, cases_lt, eq-eqb, ne_eqb}
use Rattle.std.proofs.lemmas.List.{append-nil, drop-append-le, drop-drop, drop-map, get_or-append_right}
use Rattle.std.proofs.lemmas.List.{get_or_append_left, get_or-set_other, get_or-set_same, length-append, length-drop}
use Rattle.std.proofs.lemmas.List.{get_or-replicate, length-map, length-replicate, length-take, map-append}
use Rattle.std.proofs.lemmas.List.Sums.{prefix_len-le-length}
use Rattle.std.proofs.lemmas.Option.{get_or_from_slice_get, slice_get-get_or, slice_get_within}
use Rattle.rly_codel.specs.Cases.{DequeueOutcome}
use Rattle.rly_core.specs.declared.ids.HopId.{HopId}
use Rattle.rly_core.specs.declared.ids.PeerId.{PeerId}
use Rattle.rly_core.specs.declared.params.Params.{Params}
use Rattle.rly_machine.specs.declared.command.Command.{Command}
use Rattle.rly_machine.specs.declared.command.Command.TheVariants.{Take, Pick, Release}
use Rattle.rly_machine.specs.declared.hop.Item.{Item}
use Rattle.rly_machine.specs.declared.reply.Reply.{Reply}
use Rattle.rly_machine.specs.declared.reply.Reply.TheVariants.{Taken, Already, Picked, Nothing, Released, Unchanged}
use Rattle.rly_machine.specs.declared.reply.Reply.TheVariants.{Bytes, WindowIs, Shown, Refused}
use Rattle.rly_machine.specs.Accepted.{accept, is_accepted, unless}
use Rattle.rly_machine.specs.Fold.{fold}
use Rattle.rly_machine.specs.Expiry.{expired_count, is_expired, with_expired}
use Rattle.rly_machine.specs.Pick.{after_pick, pick_outcome, pick_refusal, picked_reply, with_picked}
use Rattle.rly_machine.specs.Release.{covered_count, release_refusal, with_released}
use Rattle.rly_machine.specs.Take.{take_refusal, with_taken}
use Rattle.rly_machine.specs.State.{State, HopState, has_hop, has_peer, hop_at, last_at, new_hop, new_state}
use Rattle.rly_machine.specs.State.{next_number}
use Rattle.rly_machine.specs.Step.{step}
use Rattle.rly_machine.proofs.RealReplies.{counted}
use Rattle.rly_machine.proofs.Refusals.{among, may_pick, may_release, may_take}
use Rattle.rly_world.specs.PairPayloads.{Numbered, number_and_payload, borne_by, picked_payloads, picked_by, taken_payloads}
use Rattle.rly_world.specs.PairPayloads.{taken_by}

-- a command that fails a check leaves the state unchanged, and its reply doesn't accept; another has its own result
pub either_way : {P : Type 0} (len : P → ℕ) (s : State P) (command : Command P) (refusal : Option Reply)
    (accepted : State P × Reply)
    → step len s command ≡ unless refusal s accepted
    → (M : State P → Reply → Type 0)
    → ((reply : Reply) → is_accepted reply ≡ false → M s reply) → (refusal ≡ None → M accepted.0 accepted.1)
    → M (step len s command).0 (step len s command).1
either_way len s command None accepted is M refused may = subst (λ (r : State _ × Reply). M r.0 r.1) (sym is) (may refl)
either_way {P} len s command (Some reply) accepted is M refused may =
    let refuses : is_accepted reply ≡ false =
    elim (is_accepted reply) as (λ b. is_accepted reply ≡ b → is_accepted reply ≡ false) [
      | true ↦ λ accepts. (let told : is_accepted (step len s command).1 ≡ true = ap
          (λ (r : State P × Reply). is_accepted r.1) is ∙ accepts in
          let more = counted len s command told in
          let same : (step len s command).0.seq ≡ s.seq = ap (λ (r : State P × Reply). r.0.seq) is in
          absurd (omega (arith, more, same)))
      | false ↦ λ is. is
    ] refl in
    subst (λ (r : State P × Reply). M r.0 r.1) (sym is) (refused reply refuses)

-- ---- one list after another

pub taken_append : {P : Type 0} (len : P → ℕ) (peer : PeerId) (s : State P) (front back : List (Command P))
    → taken_payloads len peer s (front ++ back) ≡ taken_payloads len peer s front ++ taken_payloads len peer (fold len s front) back
taken_append len peer s [] back = refl
taken_append {P} len peer s (command ∷ front) back =
    let now : List (Numbered P) = taken_by peer command (step len s command).1 in
    let after : State P = (step len s command).0 in
    ap (λ l. taken_by peer command (step len s command).1 ++ l) (taken_append len peer after front back)
    ∙ sym (append_assoc now (taken_payloads len peer after front) (taken_payloads len peer (fold len after front) back))

pub picked_append : {P : Type 0} (len : P → ℕ) (hop : HopId) (s : State P) (front back : List (Command P))
    → picked_payloads len hop s (front ++ back) ≡ picked_payloads len hop s front ++ picked_payloads len hop (fold len s front) back
picked_append len hop s [] back = refl
picked_append {P} len hop s (command ∷ front) back =
    let now : List (Numbered P) = picked_by hop (hop_at s hop) command (step len s command).1 in
    let after : State P = (step len s command).0 in
    ap (λ l. picked_by hop (hop_at s hop) command (step len s command).1 ++ l) (picked_append len hop after front back)
    ∙ sym (append_assoc now (picked_payloads len hop after front) (picked_payloads len hop (fold len after front) back))

-- ---- the datagrams taken from a peer

-- a command takes nothing, or the next number
pub record Takes {P : Type 0} (before after : ℕ) (more : List (Numbered P)) : Type 0 where
  pub last : after ≡ before + length more
  pub numbered : (k : ℕ) (x : Numbered P) → slice_get more k ≡ Some x → x.number ≡ before + k + 1

takes_none : {P : Type 0} (n m : ℕ) → m ≡ n → Takes {P = P} n m []
takes_none {P} n m same = record {
  last = omega (arith, same);
  numbered = λ k x found. absurd
      (omega (arith, slice_get_within [] k x found));
}

takes_one : {P : Type 0} (n number limit : ℕ) (payload : P) → number ≡ n + 1
    → Takes n number ((record { number = number; limit = limit; payload = payload }) ∷ [])
takes_one {P} n number limit payload next =
    let one : Numbered P = record { number = number; limit = limit; payload = payload } in
    record {
      last = next;
      numbered = λ k x found.
          (let first : k ≡ 0 = (let h = slice_get_within (one ∷ []) k x found in omega (arith, h)) in
          let here : Some one ≡ Some x = ap (λ i. slice_get (one ∷ []) i) (sym first) ∙ found in
          let same : one ≡ x = (cc) in
          let number_is : x.number ≡ number = ap (λ (y : Numbered P). y.number) (sym same) in
          omega (arith, number_is, next, first));
    }

-- a reply that doesn't accept takes nothing and picks nothing
none_taken : {P : Type 0} (peer : PeerId) (command : Command P) (reply : Reply) → is_accepted reply ≡ false
    → taken_by peer command reply ≡ []
none_taken peer (Take from number hop stamp limit payload) (Taken id) refuses = absurd (true≢false refuses)
none_taken peer (Take from number hop stamp limit payload) (Already last) refuses = refl
none_taken peer (Take from number hop stamp limit payload) (Picked n id expired dropped) refuses = refl
none_taken peer (Take from number hop stamp limit payload) (Nothing expired) refuses = refl
none_taken peer (Take from number hop stamp limit payload) (Released count) refuses = refl
none_taken peer (Take from number hop stamp limit payload) Unchanged refuses = refl
none_taken peer (Take from number hop stamp limit payload) (Bytes bytes limit') refuses = refl
none_taken peer (Take from number hop stamp limit payload) (WindowIs first next) refuses = refl
none_taken peer (Take from number hop stamp limit payload) (Shown status) refuses = refl
none_taken peer (Take from number hop stamp limit payload) (Refused refusal) refuses = refl
none_taken peer (Pick hop now) reply refuses = refl
none_taken peer (Release hop number) reply refuses = refl

none_picked : {P : Type 0} (hop : HopId) (h : HopState P) (command : Command P) (reply : Reply)
    → is_accepted reply ≡ false → picked_by hop h command reply ≡ []
none_picked hop h (Pick to now) (Picked number id expired dropped) refuses = absurd (true≢false refuses)
none_picked hop h (Pick to now) (Taken id) refuses = refl
none_picked hop h (Pick to now) (Already last) refuses = refl
none_picked hop h (Pick to now) (Nothing expired) refuses = refl
none_picked hop h (Pick to now) (Released count) refuses = refl
none_picked hop h (Pick to now) Unchanged refuses = refl
none_picked hop h (Pick to now) (Bytes bytes limit) refuses = refl
none_picked hop h (Pick to now) (WindowIs first next) refuses = refl
none_picked hop h (Pick to now) (Shown status) refuses = refl
none_picked hop h (Pick to now) (Refused refusal) refuses = refl
none_picked hop h (Take from number to stamp limit payload) reply refuses = refl
none_picked hop h (Release to number) reply refuses = refl

-- the peer of a Take has the new last number, and every other peer has the old one
takes_at : {P : Type 0} (lasts : List ℕ) (from peer number limit : ℕ) (payload : P)
    → 0 < from → from ≤ length lasts → 0 < peer → number ≡ get_or lasts (from - 1) 0 + 1
    → Takes (get_or lasts (peer - 1) 0) (get_or (set lasts (from - 1) number) (peer - 1) 0)
    (cond (nat_eq from peer) ((record { number = number; limit = limit; payload = payload }) ∷ []) [])
takes_at {P} lasts from peer number limit payload from_one within peer_one next =
    elim (cases_eq from peer) [
      | inl same ↦ subst (λ b. Takes (get_or lasts (peer - 1) 0) (get_or (set lasts (from - 1) number) (peer - 1) 0)
          (cond b ((record { number = number; limit = limit; payload = payload }) ∷ []) []))
          (sym (eq-eqb from peer same))
          (subst (λ p. Takes (get_or lasts (p - 1) 0) (get_or (set lasts (from - 1) number) (p - 1) 0)
          ((record { number = number; limit = limit; payload = payload }) ∷ [])) same
          (subst (λ n. Takes (get_or lasts (from - 1) 0) n
          ((record { number = number; limit = limit; payload = payload }) ∷ []))
          (sym (get_or-set_same lasts (from - 1) number 0 (omega arith)))
          (takes_one (get_or lasts (from - 1) 0) number limit payload next)))
      | inr differ ↦ subst
          (λ b. Takes (get_or lasts (peer - 1) 0) (get_or (set lasts (from - 1) number) (peer - 1) 0)
          (cond b ((record { number = number; limit = limit; payload = payload }) ∷ []) []))
          (sym (ne_eqb from peer differ))
          (takes_none (get_or lasts (peer - 1) 0) (get_or (set lasts (from - 1) number) (peer - 1) 0)
          (get_or-set_other lasts (from - 1) (peer - 1) number 0
          (λ e. differ (let f : from ≡ peer = omega (arith, e) in f))))
    ]

pub takes_step : {P : Type 0} (len : P → ℕ) (s : State P) (command : Command P) (peer : PeerId) → 0 < peer.0
    → Takes (last_at s peer) (last_at (step len s command).0 peer) (taken_by peer command (step len s command).1)
takes_step {P} len s (Take from number hop stamp limit payload) peer there =
    either_way len s (Take from number hop stamp limit payload)
    (take_refusal len s from number hop stamp limit (len payload)) _ refl
    (λ after reply. Takes {P = P} (last_at s peer) (last_at after peer)
    (taken_by peer (Take from number hop stamp limit payload) reply))
    (λ reply refuses. subst (Takes (last_at s peer) (last_at s peer))
    (sym (none_taken peer (Take from number hop stamp limit payload) reply refuses))
    (takes_none (last_at s peer) (last_at s peer) refl))
    (λ none. (let may = may_take len s from number hop stamp limit (len payload) none in
    takes_at s.lasts from.0 peer.0 number limit payload may.peer_from may.peer_to there may.next))
takes_step {P} len s (Pick to now) peer there =
    either_way len s (Pick to now) (pick_refusal s to now) _ refl
    (λ after reply. Takes {P = P} (last_at s peer) (last_at after peer) (taken_by peer (Pick to now) reply))
    (λ reply refuses. takes_none {P = P} (last_at s peer) (last_at s peer) refl)
    (λ none. takes_none {P = P} (last_at s peer) (last_at s peer) refl)
takes_step {P} len s (Release to number) peer there =
    either_way len s (Release to number) (release_refusal s to number) _ refl
    (λ after reply. Takes {P = P} (last_at s peer) (last_at after peer) (taken_by peer (Release to number) reply))
    (λ reply refuses. takes_none {P = P} (last_at s peer) (last_at s peer) refl)
    (λ none. takes_none {P = P} (last_at s peer) (last_at s peer) refl)

-- an element of a concatenation
pub in_either : {X : Type 0} (xs ys : List X) (k : ℕ) (x : X) → slice_get (xs ++ ys) k ≡ Some x
    → (slice_get xs k ≡ Some x) ⊎ ((length xs ≤ k) × (slice_get ys (k - length xs) ≡ Some x))
in_either {X} xs ys k x found =
    let within = slice_get_within (xs ++ ys) k x found in
    let at = get_or_from_slice_get (xs ++ ys) k x x found in
    elim (cases_lt k (length xs)) [
      | inl front ↦ inl (slice_get-get_or xs k x front
          ∙ ap (λ (y : X). Some y) (sym (get_or_append_left xs ys x k front) ∙ at))
      | inr past ↦ inr (
        past,
        (let rest : k - length xs < length ys = omega (arith, within, length-append xs ys) in
            slice_get-get_or ys (k - length xs) x rest
            ∙ ap (λ (y : X). Some y) (sym (get_or-append_right xs ys (length xs) k x refl past) ∙ at)),
      )
    ]

takes_again : {P : Type 0} (a b c : ℕ) (one two : List (Numbered P)) → Takes a b one → Takes b c two
    → Takes a c (one ++ two)
takes_again {P} a b c one two first second = record {
  last = omega (arith, first.last, second.last, length-append one two);
  numbered = λ k x found. elim (in_either one two k x found) [
    | inl front ↦ first.numbered k x front
    | inr back ↦ (let at = second.numbered (k - length one) x back.1 in omega (arith, at, first.last, back.0))
  ];
}

pub takes_fold : {P : Type 0} (len : P → ℕ) (s : State P) (commands : List (Command P)) (peer : PeerId) → 0 < peer.0
    → Takes (last_at s peer) (last_at (fold len s commands) peer) (taken_payloads len peer s commands)
takes_fold len s [] peer there = takes_none (last_at s peer) (last_at s peer) refl
takes_fold len s (command ∷ commands) peer there =
    takes_again (last_at s peer) (last_at (step len s command).0 peer)
    (last_at (fold len (step len s command).0 commands) peer)
    (taken_by peer command (step len s command).1) (taken_payloads len peer (step len s command).0 commands)
    (takes_step len s command peer there) (takes_fold len (step len s command).0 commands peer there)

-- from a new spool on
pub takes_from_new : {P : Type 0} (len : P → ℕ) (params : Params) (commands : List (Command P)) (peer : PeerId)
    → has_peer (new_state {P = P} params) peer ≡ true
    → Takes 0 (last_at (fold len (new_state params) commands) peer) (taken_payloads len peer (new_state params) commands)
takes_from_new {P} len params commands peer there =
    let found = among (length (replicate params.peers 0)) peer.0 there in
    let size = length-replicate {A = ℕ} params.peers 0 in
    let start : last_at (new_state {P = P} params) peer ≡ 0 = get_or-replicate params.peers (peer.0 - 1) 0 0
    (omega (arith, found.0, found.1, size)) in
    subst (λ n. Takes n (last_at (fold len (new_state params) commands) peer)
    (taken_payloads len peer (new_state params) commands)) start
    (takes_fold len (new_state params) commands peer found.0)

-- ---- the datagrams that go into flight

-- a list of commands led a hop from one state to another, and put these into its flight
pub record Flows {P : Type 0} (before after : HopState P) (more : List (Numbered P)) : Type 0 where
  pub fewer : before.released ≤ after.released
  pub within : after.released - before.released ≤ length before.flight + length more
  pub flight : borne_by after.flight ≡ drop (after.released - before.released)
      (borne_by before.flight ++ map number_and_payload more)
  pub numbered : (k : ℕ) (x : Numbered P) → slice_get more k ≡ Some x
      → x.number ≡ before.released + length before.flight + k + 1

pub length-borne_by : {P : Type 0} (items : List (Item P)) → length (borne_by items) ≡ length items
length-borne_by {P} items = length-map items (λ (item : Item P). (item.limit, item.payload))

pub length-borne : {P : Type 0} (xs : List (Numbered P)) → length (map number_and_payload xs) ≡ length xs
length-borne {P} xs = length-map xs (number_and_payload {P = P})

-- the flight is the same
still_flows : {P : Type 0} (h after : HopState P) → after.flight ≡ h.flight → after.released ≡ h.released
    → Flows h after []
still_flows {P} h after same released = record {
  fewer = omega (arith, released);
  within = omega (arith, released);
  flight = ap (λ (l : List (Item P)). borne_by l) same
      ∙ sym ((let e : after.released - h.released ≡ 0 = omega (arith, released) in ap
      (λ k. drop k (borne_by h.flight ++ [])) e) ∙ append-nil (borne_by h.flight));
  numbered = λ k x found. absurd (omega (arith, slice_get_within [] k x found));
}

flows_again : {P : Type 0} (a b c : HopState P) (one two : List (Numbered P)) → Flows a b one → Flows b c two
    → Flows a c (one ++ two)
flows_again {P} a b c one two first second =
    let pay : List (Numbered P) → List (ℕ × P) = λ xs. map number_and_payload xs in
    let old : List (ℕ × P) = borne_by a.flight in
    let size_old = length-borne_by a.flight in
    let size_one = length-borne one in
    let size_line = length-append (borne_by a.flight) (map number_and_payload one) in
    let in_line : b.released - a.released ≤ length (borne_by a.flight ++ map number_and_payload one) = omega
    (arith, first.within, size_old, size_one, size_line) in
    let flown : length b.flight ≡ length (borne_by a.flight ++ map number_and_payload one) - (b.released - a.released) =
    sym (length-borne_by b.flight) ∙ ap length first.flight
    ∙ length-drop (b.released - a.released) (borne_by a.flight ++ map number_and_payload one) in
    let size_both = length-append one two in
    record {
      fewer = omega (arith, first.fewer, second.fewer);
      within = omega (
        arith,
        first.within,
        first.fewer,
        second.fewer,
        second.within,
        flown,
        size_line,
        size_old,
        size_one,
        size_both,
      );
      flight = second.flight
          ∙ ap (λ l. drop (c.released - b.released) (l ++ pay two)) first.flight
          ∙ ap (drop (c.released - b.released))
          (sym (drop-append-le (b.released - a.released) (old ++ pay one) (pay two) in_line))
          ∙ drop-drop (c.released - b.released) (b.released - a.released) ((old ++ pay one) ++ pay two)
          ∙ ap (λ n. drop n ((old ++ pay one) ++ pay two))
          (let e : b.released - a.released + (c.released - b.released) ≡ c.released - a.released = omega
          (arith, first.fewer, second.fewer) in e)
          ∙ ap (drop (c.released - a.released))
          (append_assoc old (pay one) (pay two)
          ∙ ap (λ l. old ++ l) (sym (map-append (number_and_payload {P = P}) one two)));
      numbered = λ k x found. elim (in_either one two k x found) [
        | inl front ↦ first.numbered k x front
        | inr back ↦ (let at = second.numbered (k - length one) x back.1 in omega
            (arith, at, flown, first.fewer, first.within, size_line, size_old, size_one, back.0))
      ];
    }

-- the first in flight are released
flows_released : {P : Type 0} (h : HopState P) (count : ℕ) → count ≤ length h.flight
    → Flows h (with_released h count) []
flows_released {P} h count within =
    let gone : h.released + count - h.released ≡ count = omega arith in
    record {
      fewer = omega arith;
      within = omega arith;
      flight = sym (drop-map (λ (item : Item P). (item.limit, item.payload)) count h.flight)
          ∙ ap (drop count) (sym (append-nil (borne_by h.flight)))
          ∙ ap (λ k. drop k (borne_by h.flight ++ [])) (sym gone);
      numbered = λ k x found. absurd (omega (arith, slice_get_within [] k x found));
    }

-- the datagram that a pick put into flight at its own hop: the first after the expired and dropped ones, if there is
-- one
picked_of : {P : Type 0} → ℕ → List (Item P) → List (Numbered P)
picked_of number [] = []
picked_of number (item ∷ behind) = (record { number = number; limit = item.limit; payload = item.payload }) ∷ []

flows_picked : {P : Type 0} (h : HopState P) (now : ℕ) (outcome : DequeueOutcome) (rest : List (Item P))
    → drop outcome.dropped h.queue ≡ rest → Flows h (with_picked h now outcome) (picked_of (next_number h) rest)
unfolding picked_of
flows_picked {P} h now outcome [] is =
    still_flows h (with_picked h now outcome)
    (ap (λ (q : List (Item P)). h.flight ++ take 1 q) is ∙ append-nil h.flight) refl
flows_picked {P} h now outcome (item ∷ behind) is =
    let none : h.released - h.released ≡ 0 = omega arith in
    let one : Numbered P = record { number = next_number h; limit = item.limit; payload = item.payload } in
    record {
      fewer = omega arith;
      within = omega (arith, none);
      flight = map-append (λ (item : Item P). (item.limit, item.payload)) h.flight
          (take 1 (drop outcome.dropped h.queue))
          ∙ ap (λ (q : List (Item P)). borne_by h.flight ++ borne_by (take 1 q)) is
          ∙ sym (ap (λ k. drop k (borne_by h.flight ++ (item.limit, item.payload) ∷ [])) none);
      numbered = λ k x found.
          (let first : k ≡ 0 = (let h = slice_get_within (one ∷ []) k x found in omega (arith, h)) in
          let here : Some one ≡ Some x = ap (λ i. slice_get (one ∷ []) i) (sym first) ∙ found in
          let same : one ≡ x = (cc) in
          let number_is : x.number ≡ next_number h = ap (λ (y : Numbered P). y.number) (sym same) in
          omega (arith, number_is, first));
    }

-- the expired ones are removed from the queue alone
flows_expired : {P : Type 0} (h after : HopState P) (count : ℕ) (more : List (Numbered P))
    → Flows (with_expired h count) after more → Flows h after more
flows_expired h after count more flows = record {
  fewer = flows.fewer;
  within = flows.within;
  flight = flows.flight;
  numbered = flows.numbered;
}

-- none, in either case
both_none : {P : Type 0} (b : Bool) → cond b (let l : List (Numbered P) = [] in l) [] ≡ []
both_none true = refl
both_none false = refl

-- as many ids as items are taken from the front of a queue
ids_count : {P : Type 0} (count : ℕ) (queue : List (Item P)) → count ≤ length queue
    → length (map (λ (item : Item P). item.id) (take count queue)) ≡ count
ids_count {P} count queue within =
    length-map (take count queue) (λ (item : Item P). item.id) ∙ length-take count queue
    ∙ (let e : min count (length queue) ≡ count = omega (arith, within) in e)

-- the datagram that the reply to a pick put into flight
picked_by_pick : {P : Type 0} (hop to : HopId) (now : ℕ) (h g : HopState P) (expired dropped : ℕ)
    (rest : List (Item P))
    → (to.0 ≡ hop.0 → g ≡ h) → expired ≤ length h.queue → drop dropped (drop expired h.queue) ≡ rest
    → picked_by hop g (Pick to now)
    (picked_reply (next_number h) (map (λ (item : Item P). item.id) (take expired h.queue))
    (map (λ (item : Item P). item.id) (take dropped (drop expired h.queue))) rest) ≡ cond
    (nat_eq to.0 hop.0) (picked_of (next_number h) rest) []
unfolding picked_of
picked_by_pick {P} hop to now h g expired dropped [] same within is = sym (both_none {P = P} (nat_eq to.0 hop.0))
picked_by_pick {P} hop to now h g expired dropped (item ∷ behind) same within is =
    let late : List ℕ = map (λ (item : Item P). item.id) (take expired h.queue) in
    let ids : List ℕ = map (λ (item : Item P). item.id) (take dropped (drop expired h.queue)) in
    let shown : List (Item P)
    → List (Numbered P) = λ q. map (λ (item : Item P). record {
      number = next_number h;
      limit = item.limit;
      payload = item.payload;
    }) (take 1 q) in
    let left : length (drop dropped (drop expired h.queue)) ≡ length (item ∷ behind) = ap length is in
    let gone : length (map (λ (item : Item P). item.id) (take dropped (drop expired h.queue))) ≡ dropped =
    ids_count dropped (drop expired h.queue)
    (omega (arith, left, length-drop dropped (drop expired h.queue))) in
    elim (cases_eq to.0 hop.0) [
      | inl here ↦ ap (λ b. cond b (shown (drop (length ids) (drop (length late) g.queue))) [])
          (eq-eqb to.0 hop.0 here)
          ∙ ap (λ (x : HopState P). shown (drop (length ids) (drop (length late) x.queue))) (same here)
          ∙ ap (λ n. shown (drop (length ids) (drop n h.queue))) (ids_count expired h.queue within)
          ∙ ap (λ n. shown (drop n (drop expired h.queue))) gone ∙ ap shown is
          ∙ sym (ap (λ b. cond b (picked_of (next_number h) (item ∷ behind)) []) (eq-eqb to.0 hop.0 here))
      | inr elsewhere ↦ ap (λ b. cond b (shown (drop (length ids) (drop (length late) g.queue))) [])
          (ne_eqb to.0 hop.0 elsewhere)
          ∙ sym (ap (λ b. cond b (picked_of (next_number h) (item ∷ behind)) []) (ne_eqb to.0 hop.0 elsewhere))
    ]

-- the hop of an accepted command is the new one, and every other hop is unchanged
pub own_hop : {P : Type 0} (s : State P) (hop to : HopId) (h : HopState P) → 0 < to.0 → to.0 ≤ length s.hops
    → to.0 ≡ hop.0 → hop_at (accept s to h) hop ≡ h
own_hop {P} s hop to h from below same =
    ap (λ n. get_or (set s.hops (to.0 - 1) h) (n - 1) new_hop) (sym same)
    ∙ get_or-set_same s.hops (to.0 - 1) h new_hop (omega arith)

pub other_hop : {P : Type 0} (s : State P) (hop to : HopId) (h : HopState P) → 0 < to.0 → 0 < hop.0
    → (to.0 ≡ hop.0 → ⊥) → hop_at (accept s to h) hop ≡ hop_at s hop
other_hop {P} s hop to h from hop_from differ = get_or-set_other s.hops (to.0 - 1) (hop.0 - 1) h new_hop
    (λ same. differ (let e : to.0 ≡ hop.0 = omega (arith, same) in e))

-- a change of one hop
flows_at : {P : Type 0} (s : State P) (hop to : HopId) (h : HopState P) (more : List (Numbered P)) → 0 < hop.0
    → 0 < to.0 → to.0 ≤ length s.hops
    → Flows (hop_at s to) h more → Flows (hop_at s hop) (hop_at (accept s to h) hop) (cond (nat_eq to.0 hop.0) more [])
flows_at {P} s hop to h more hop_from from below flows = elim (cases_eq to.0 hop.0) [
  | inl same ↦ (let here : hop_at s to ≡ hop_at s hop = ap (λ n. get_or s.hops (n - 1) new_hop) same in
      subst (λ (t : List (Numbered P)). Flows (hop_at s hop) (hop_at (accept s to h) hop) t)
      (sym (ap (λ b. cond b more []) (eq-eqb to.0 hop.0 same)))
      (subst (λ (after : HopState P). Flows (hop_at s hop) after more) (sym (own_hop s hop to h from below same))
      (subst (λ (before : HopState P). Flows before h more) here flows)))
  | inr differ ↦ subst (λ (t : List (Numbered P)). Flows (hop_at s hop) (hop_at (accept s to h) hop) t)
      (sym (ap (λ b. cond b more []) (ne_eqb to.0 hop.0 differ)))
      (subst (λ (after : HopState P). Flows (hop_at s hop) after []) (sym (other_hop s hop to h from hop_from differ))
      (still_flows (hop_at s hop) (hop_at s hop) refl refl))
]

pub flows_step : {P : Type 0} (len : P → ℕ) (s : State P) (command : Command P) (hop : HopId) → 0 < hop.0
    → Flows (hop_at s hop) (hop_at (step len s command).0 hop)
    (picked_by hop (hop_at s hop) command (step len s command).1)
flows_step {P} len s (Take from number to stamp limit payload) hop there =
    either_way len s (Take from number to stamp limit payload)
    (take_refusal len s from number to stamp limit (len payload)) _ refl
    (λ after reply. Flows (hop_at s hop) (hop_at after hop)
    (picked_by hop (hop_at s hop) (Take from number to stamp limit payload) reply))
    (λ reply refuses. still_flows (hop_at s hop) (hop_at s hop) refl refl)
    (λ none. (let may = may_take len s from number to stamp limit (len payload) none in
    subst (Flows (hop_at s hop) (hop_at (accept s to (with_taken (hop_at s to) (s.seq + 1) stamp limit payload)) hop))
    (both_none {P = P} (nat_eq to.0 hop.0))
    (flows_at s hop to (with_taken (hop_at s to) (s.seq + 1) stamp limit payload) [] there may.hop_from may.hop_to
    (still_flows (hop_at s to) (with_taken (hop_at s to) (s.seq + 1) stamp limit payload) refl refl))))
flows_step {P} len s (Pick to now) hop there =
    either_way len s (Pick to now) (pick_refusal s to now) _ refl
    (λ after reply. Flows (hop_at s hop) (hop_at after hop) (picked_by hop (hop_at s hop) (Pick to now) reply))
    (λ reply refuses. subst (Flows (hop_at s hop) (hop_at s hop))
    (sym (none_picked hop (hop_at s hop) (Pick to now) reply refuses))
    (still_flows (hop_at s hop) (hop_at s hop) refl refl))
    (λ none. (let may = may_pick s to now none in
    let late : ℕ = expired_count (hop_at s to) now in
    let outcome : DequeueOutcome = pick_outcome len s.params (hop_at s to) now in
    let rest : List (Item P) = drop outcome.dropped (drop late (hop_at s to).queue) in
    subst (Flows (hop_at s hop) (hop_at (accept s to (after_pick len s.params (hop_at s to) now)) hop))
    (sym (picked_by_pick hop to now (hop_at s to) (hop_at s hop) late outcome.dropped rest
    (λ same. sym (ap (λ n. get_or s.hops (n - 1) new_hop) same))
    (prefix_len-le-length (is_expired (max now (hop_at s to).moment)) (hop_at s to).queue) refl))
    (flows_at s hop to (after_pick len s.params (hop_at s to) now) (picked_of (next_number (hop_at s to)) rest) there
    may.hop_from may.hop_to
    (flows_expired (hop_at s to) (after_pick len s.params (hop_at s to) now) late
    (picked_of (next_number (hop_at s to)) rest)
    (flows_picked (with_expired (hop_at s to) late) now outcome rest refl)))))
flows_step {P} len s (Release to number) hop there =
    either_way len s (Release to number) (release_refusal s to number) _ refl
    (λ after reply. Flows (hop_at s hop) (hop_at after hop) (picked_by hop (hop_at s hop) (Release to number) reply))
    (λ reply refuses. still_flows (hop_at s hop) (hop_at s hop) refl refl)
    (λ none. (let may = may_release s to number none in
    subst (Flows (hop_at s hop)
    (hop_at (accept s to (with_released (hop_at s to) (covered_count (hop_at s to) number))) hop))
    (both_none {P = P} (nat_eq to.0 hop.0))
    (flows_at s hop to (with_released (hop_at s to)
    (covered_count (hop_at s to) number)) [] there may.hop_from may.hop_to
    (flows_released (hop_at s to) (covered_count (hop_at s to) number) (omega (arith, may.given))))))

pub flows_fold : {P : Type 0} (len : P → ℕ) (s : State P) (commands : List (Command P)) (hop : HopId) → 0 < hop.0
    → Flows (hop_at s hop) (hop_at (fold len s commands) hop) (picked_payloads len hop s commands)
flows_fold len s [] hop there = still_flows (hop_at s hop) (hop_at s hop) refl refl
flows_fold len s (command ∷ commands) hop there =
    flows_again (hop_at s hop) (hop_at (step len s command).0 hop)
    (hop_at (fold len (step len s command).0 commands) hop)
    (picked_by hop (hop_at s hop) command (step len s command).1) (picked_payloads len hop (step len s command).0 commands)
    (flows_step len s command hop there) (flows_fold len (step len s command).0 commands hop there)

pub flows_from_new : {P : Type 0} (len : P → ℕ) (params : Params) (commands : List (Command P)) (hop : HopId)
    → has_hop (new_state {P = P} params) hop ≡ true
    → Flows new_hop (hop_at (fold len (new_state params) commands) hop) (picked_payloads len hop (new_state params) commands)
flows_from_new {P} len params commands hop there =
    let found = among (length (replicate params.hops (let h : HopState P = new_hop in h))) hop.0 there in
    let size = length-replicate params.hops (let h : HopState P = new_hop in h) in
    let start : hop_at (new_state {P = P} params) hop ≡ new_hop = get_or-replicate params.hops (hop.0 - 1)
    (let h : HopState P = new_hop in h) new_hop (omega (arith, found.0, found.1, size)) in
    subst (λ (h : HopState P). Flows h (hop_at (fold len (new_state params) commands) hop)
    (picked_payloads len hop (new_state params) commands)) start
    (flows_fold len (new_state params) commands hop found.0)
