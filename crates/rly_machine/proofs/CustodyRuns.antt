-- The state of each item that was taken for a hop, after any list of commands.
use Rattle.std.proofs.Common.{ℕ, ◌≡◌, ◌+◌, ◌-◌, ◌<◌, ◌≤◌, ◌^◌, Bool, true, false, cond, not, ◌⊎◌, inl, inr, List, [], ◌∷◌, ◌++◌, length, get_or, set, take, drop, refl, arith, sym, ◌∙◌, ap, subst, Option, Some, None, append_assoc, max, replicate}
use Rattle.std.specs.Prelude.{count_by, nat_eq, nat_le, nat_lt}
use Rattle.std.proofs.lemmas.Bool.{cases_eq, cases_lt, eq-eqb, ne_eqb}
use Rattle.std.proofs.lemmas.List.{append-nil, drop-append-le, drop-drop, drop-map, get_or-append_right, get_or_append_left, get_or-set_other, get_or-set_same, length-append, length-drop, get_or-replicate, length-map, length-replicate, map-append, nil_from_length, take-append-drop}
use Rattle.std.proofs.lemmas.List.Elements.{filter-append}
use Rattle.std.proofs.lemmas.List.Sums.{count_by-le-length, length-filter}
use Rattle.std.specs.List.{filter}
use Rattle.rly_codel.proofs.Bounds.{dropped-lt}
use Rattle.rly_codel.specs.Cases.{DequeueOutcome}
use Rattle.rly_core.specs.declared.ids.HopId.{HopId}
use Rattle.rly_core.specs.declared.ids.PeerId.{PeerId}
use Rattle.rly_core.specs.declared.params.Params.{Params}
use Rattle.rly_machine.specs.declared.command.Command.{Command}
use Rattle.rly_machine.specs.declared.command.Command.TheVariants.{Take, Pick, Release}
use Rattle.rly_machine.specs.declared.hop.Item.{Item}
use Rattle.rly_machine.specs.declared.reply.Reply.{Reply}
use Rattle.rly_machine.specs.declared.reply.Reply.TheVariants.{Taken, Already, Picked, Nothing, Released, Unchanged, Bytes, WindowIs, Shown, Refused}
use Rattle.rly_machine.specs.Accepted.{accept, max_seq, unless}
use Rattle.rly_machine.specs.Custody.{HopAccount, KeepsCustody, account_along, account_of, and_then, ids_of, empty_account, times}
use Rattle.rly_machine.specs.Fold.{fold}
use Rattle.rly_machine.specs.Expiry.{after_expiry, expired_count, with_expired}
use Rattle.rly_machine.specs.Pick.{after_pick, is_idle, pick_outcome, pick_refusal, pick_reply, picked_reply, waiting_of, with_picked}
use Rattle.rly_machine.specs.Release.{covered_count, release_refusal, with_released}
use Rattle.rly_machine.specs.Take.{is_full, take_refusal, with_taken}
use Rattle.rly_machine.specs.State.{State, HopState, has_hop, has_peer, hop_at, last_at, new_hop, new_state, next_number}
use Rattle.rly_machine.specs.Step.{step}
use Rattle.rly_machine.proofs.Refusals.{among, may_pick, may_release, may_take}
use Rattle.rly_machine.proofs.Waiting.{waiting_length}

-- a list of commands led a hop from one state to another: each id that waited or was taken is dropped, expired, sent or
-- waits; those in flight are those that were sent, less those released; and the numbers rise by one
pub record Moves {P : Type 0} (before after : HopState P) (tells : HopAccount) : Type 0 where
  pub placed : (id : ℕ) → times id (ids_of before.queue) + times id tells.taken ≡ times id tells.dropped + times id tells.expired + times id tells.sent + times id (ids_of after.queue)
  pub fewer : before.released ≤ after.released
  pub within : after.released - before.released ≤ length (ids_of before.flight ++ tells.sent)
  pub flight : ids_of after.flight ≡ drop (after.released - before.released) (ids_of before.flight ++ tells.sent)
  pub count : length tells.numbers ≡ length tells.sent
  pub numbered : (k : ℕ) → k < length tells.numbers → get_or tells.numbers k 0 ≡ before.released + length before.flight + 1 + k

-- the number of occurrences of an id in a concatenation
pub times-append : (id : ℕ) (xs ys : List ℕ) → times id (xs ++ ys) ≡ times id xs + times id ys
times-append id xs ys =
    let is : ℕ → Bool = λ other. nat_eq other id in
    sym (length-filter is (xs ++ ys)) ∙ ap length (filter-append is xs ys) ∙ length-append (filter is xs) (filter is ys)
    ∙ (let e : length (filter is xs) + length (filter is ys) ≡ count_by is xs + count_by is ys = omega (arith, length-filter is xs, length-filter is ys) in e)

length-ids : {P : Type 0} (items : List (Item P)) → length (ids_of items) ≡ length items
length-ids {P} items = length-map items (λ (item : Item P). item.id)

-- no command
pub no_moves : {P : Type 0} (h : HopState P) → Moves h h empty_account
no_moves h = record {
  placed = λ id. omega arith;
  fewer = omega arith;
  within = omega arith;
  flight = sym ((let e : h.released - h.released ≡ 0 = omega arith in ap (λ k. drop k (ids_of h.flight ++ [])) e) ∙ append-nil (ids_of h.flight));
  count = refl;
  numbered = λ k none. absurd (omega arith);
}

-- two lists in order
pub moves_again : {P : Type 0} (a b c : HopState P) (one two : HopAccount) → Moves a b one → Moves b c two → Moves a c (and_then one two)
moves_again {P} a b c one two first second =
    let k : ℕ = b.released - a.released in
    let line : List ℕ = ids_of a.flight ++ one.sent in
    let flown : length b.flight ≡ length (ids_of a.flight ++ one.sent) - (b.released - a.released) =
    sym (length-ids b.flight) ∙ ap length first.flight ∙ length-drop (b.released - a.released) (ids_of a.flight ++ one.sent) in
    let size_a = length-append (ids_of a.flight) one.sent in
    let size_b = length-append (ids_of b.flight) two.sent in
    let size_c = length-append (ids_of a.flight) (one.sent ++ two.sent) in
    let size_sent = length-append one.sent two.sent in
    let within_b : c.released - b.released ≤ length b.flight + length two.sent = omega (arith, second.within, size_b, length-ids b.flight) in
    record {
      placed = λ id. omega (arith, first.placed id, second.placed id, times-append id one.taken two.taken, times-append id one.dropped two.dropped, times-append id one.expired two.expired, times-append id one.sent two.sent);
      fewer = omega (arith, first.fewer, second.fewer);
      within = omega (arith, first.within, first.fewer, second.fewer, within_b, flown, size_c, size_sent, size_a);
      flight = second.flight
          ∙ ap (λ l. drop (c.released - b.released) (l ++ two.sent)) first.flight
          ∙ ap (drop (c.released - b.released)) (sym (drop-append-le (b.released - a.released) (ids_of a.flight ++ one.sent) two.sent first.within))
          ∙ drop-drop (c.released - b.released) (b.released - a.released) ((ids_of a.flight ++ one.sent) ++ two.sent)
          ∙ ap (λ n. drop n ((ids_of a.flight ++ one.sent) ++ two.sent)) (let e : b.released - a.released + (c.released - b.released) ≡ c.released - a.released = omega (arith, first.fewer, second.fewer) in e)
          ∙ ap (drop (c.released - a.released)) (append_assoc (ids_of a.flight) one.sent two.sent);
      count = omega (arith, length-append one.numbers two.numbers, size_sent, first.count, second.count);
      numbered = λ n below. elim (cases_lt n (length one.numbers)) [
        | inl front ↦ get_or_append_left one.numbers two.numbers 0 n front ∙ first.numbered n front
        | inr past ↦ (let rest : n - length one.numbers < length two.numbers = omega (arith, below, length-append one.numbers two.numbers) in
            get_or-append_right one.numbers two.numbers (length one.numbers) n 0 refl past
            ∙ second.numbered (n - length one.numbers) rest
            ∙ (let e : b.released + length b.flight + 1 + (n - length one.numbers) ≡ a.released + length a.flight + 1 + n
            = omega (arith, flown, size_a, length-ids a.flight, first.within, first.fewer, first.count) in e))
      ];
    }

-- refusals
abbrev IsQuiet : Reply → Type 0
IsQuiet (Already last) = Unit {0}
IsQuiet Unchanged = Unit {0}
IsQuiet (Refused refusal) = Unit {0}
IsQuiet _ = ⊥

-- have an empty account
quiet_told : {P : Type 0} (hop : HopId) (command : Command P) (reply : Reply) → IsQuiet reply → account_of hop command reply ≡ empty_account
quiet_told hop (Take _ _ _ _ _ _) (Already last) q = refl
quiet_told hop (Pick _ _) (Already last) q = refl
quiet_told hop (Release _ _) (Already last) q = refl
quiet_told hop (Take _ _ _ _ _ _) Unchanged q = refl
quiet_told hop (Pick _ _) Unchanged q = refl
quiet_told hop (Release _ _) Unchanged q = refl
quiet_told hop (Take _ _ _ _ _ _) (Refused refusal) q = refl
quiet_told hop (Pick _ _) (Refused refusal) q = refl
quiet_told hop (Release _ _) (Refused refusal) q = refl
quiet_told hop command (Taken id) q = absurd q
quiet_told hop command (Picked number id expired dropped) q = absurd q
quiet_told hop command (Nothing expired) q = absurd q
quiet_told hop command (Released count) q = absurd q
quiet_told hop command (Bytes payload limit) q = absurd q
quiet_told hop command (WindowIs first next) q = absurd q
quiet_told hop command (Shown status) q = absurd q

-- a failed check has an empty account, and so have those after it
quiet_check : (fails : Bool) (x : Reply) (rest : Option Reply) (reply : Reply) → IsQuiet x → (rest ≡ Some reply → IsQuiet reply) → cond fails (Some x) rest ≡ Some reply → IsQuiet reply
quiet_check true x rest reply q more h = subst IsQuiet (let e : x ≡ reply = (cc) in e) q
quiet_check false x rest reply q more h = more h

none_quiet : (reply : Reply) → None ≡ Some reply → IsQuiet reply
none_quiet reply h = absurd (let e : None ≡ Some reply = h in cc)

take_quiet : {P : Type 0} (len : P → ℕ) (s : State P) (peer : PeerId) (number : ℕ) (hop : HopId) (stamp limit bytes : ℕ) (reply : Reply) → take_refusal len s peer number hop stamp limit bytes ≡ Some reply → IsQuiet reply
take_quiet len s peer number hop stamp limit bytes reply =
    quiet_check (not (has_peer s peer)) _ _ reply tt
    (quiet_check (not (has_hop s hop)) _ _ reply tt
    (quiet_check (nat_le (2 ^ 52) stamp) _ _ reply tt
    (quiet_check (nat_le (2 ^ 40) limit) _ _ reply tt
    (quiet_check (nat_lt s.params.payload bytes) _ _ reply tt
    (quiet_check (nat_le number (last_at s peer)) _ _ reply tt
    (quiet_check (nat_lt (last_at s peer + 1) number) _ _ reply tt
    (quiet_check (is_full len s bytes) _ _ reply tt
    (quiet_check (nat_le max_seq s.seq) _ _ reply tt (none_quiet reply)))))))))

pick_quiet : {P : Type 0} (s : State P) (hop : HopId) (now : ℕ) (reply : Reply) → pick_refusal s hop now ≡ Some reply → IsQuiet reply
pick_quiet s hop now reply =
    quiet_check (not (has_hop s hop)) _ _ reply tt
    (quiet_check (nat_le (2 ^ 52) now) _ _ reply tt
    (quiet_check (nat_le s.params.window (length (hop_at s hop).flight)) _ _ reply tt
    (quiet_check (is_idle (hop_at s hop)) _ _ reply tt
    (quiet_check (nat_le max_seq s.seq) _ _ reply tt (none_quiet reply)))))

release_quiet : {P : Type 0} (s : State P) (hop : HopId) (number : ℕ) (reply : Reply) → release_refusal s hop number ≡ Some reply → IsQuiet reply
release_quiet s hop number reply =
    quiet_check (not (has_hop s hop)) _ _ reply tt
    (quiet_check (nat_le (next_number (hop_at s hop)) number) _ _ reply tt
    (quiet_check (nat_eq (covered_count (hop_at s hop) number) 0) _ _ reply tt
    (quiet_check (nat_le max_seq s.seq) _ _ reply tt (none_quiet reply))))

-- a refused command changes no hop
moves_unless : {P : Type 0} (refusal : Option Reply) (s : State P) (accepted : State P × Reply) (hop : HopId) (command : Command P)
    → ((reply : Reply) → refusal ≡ Some reply → IsQuiet reply)
    → (refusal ≡ None → Moves (hop_at s hop) (hop_at accepted.0 hop) (account_of hop command accepted.1))
    → Moves (hop_at s hop) (hop_at (unless refusal s accepted).0 hop) (account_of hop command (unless refusal s accepted).1)
moves_unless None s accepted hop command quiet moves = moves refl
moves_unless (Some reply) s accepted hop command quiet moves =
    subst (Moves (hop_at s hop) (hop_at s hop)) (sym (quiet_told hop command reply (quiet reply refl))) (no_moves (hop_at s hop))

-- an item is added at the back of the queue
moves_taken : {P : Type 0} (h : HopState P) (id stamp limit : ℕ) (payload : P) → Moves h (with_taken h id stamp limit payload) (record { taken = id ∷ []; dropped = []; expired = []; sent = []; numbers = [] })
moves_taken {P} h id stamp limit payload =
    let item : Item P = record { id = id; stamp = max stamp h.moment; limit = limit; payload = payload } in
    let queued : ids_of (h.queue ++ item ∷ []) ≡ ids_of h.queue ++ id ∷ [] = map-append (λ (item : Item P). item.id) h.queue (item ∷ []) in
    let still = no_moves h in
    record {
      placed = λ one. (let e = ap (times one) queued in omega (arith, e, times-append one (ids_of h.queue) (id ∷ [])));
      fewer = still.fewer;
      within = still.within;
      flight = still.flight;
      count = refl;
      numbered = λ k none. absurd (omega arith);
    }

-- the account of the expired items
abbrev expiry_tells : {P : Type 0} → HopState P → ℕ → HopAccount
expiry_tells h count = record { taken = []; dropped = []; expired = ids_of (take count h.queue); sent = []; numbers = [] }

-- the first in flight are released
moves_released : {P : Type 0} (h : HopState P) (count : ℕ) → count ≤ length h.flight → Moves h (with_released h count) empty_account
moves_released {P} h count within =
    let gone : h.released + count - h.released ≡ count = omega arith in
    record {
      placed = λ id. omega arith;
      fewer = omega arith;
      within = omega (arith, length-append (ids_of h.flight) [], length-ids h.flight);
      flight = sym (drop-map (λ (item : Item P). item.id) count h.flight)
          ∙ ap (drop count) (sym (append-nil (ids_of h.flight)))
          ∙ ap (λ k. drop k (ids_of h.flight ++ [])) (sym gone);
      count = refl;
      numbered = λ k none. absurd (omega arith);
    }

-- the first waiting items expire
pub moves_expired : {P : Type 0} (h : HopState P) (count : ℕ) → Moves h (with_expired h count) (expiry_tells h count)
moves_expired {P} h count =
    let still = no_moves h in
    let line : ids_of h.queue ≡ ids_of (take count h.queue) ++ ids_of (drop count h.queue) =
    ap ids_of (sym (take-append-drop count h.queue)) ∙ map-append (λ (item : Item P). item.id) (take count h.queue) (drop count h.queue) in
    record {
      placed = λ id. (let before = ap (times id) line in
          omega (arith, before, times-append id (ids_of (take count h.queue)) (ids_of (drop count h.queue))));
      fewer = still.fewer;
      within = still.within;
      flight = still.flight;
      count = refl;
      numbered = λ k none. absurd (omega arith);
    }

-- the account of a pick for its own hop, after the expired items are gone
picked_tells : {P : Type 0} → HopState P → ℕ → List (Item P) → HopAccount
picked_tells h count [] = empty_account
picked_tells h count (item ∷ behind) = record { taken = []; dropped = ids_of (take count h.queue); expired = []; sent = item.id ∷ []; numbers = next_number h ∷ [] }

-- the first item after the dropped ones goes into flight, if there is one
moves_picked : {P : Type 0} (h : HopState P) (now : ℕ) (outcome : DequeueOutcome) (rest : List (Item P))
    → drop outcome.dropped h.queue ≡ rest → (0 < length h.queue → outcome.dropped < length h.queue)
    → Moves h (with_picked h now outcome) (picked_tells h outcome.dropped rest)
unfolding picked_tells
moves_picked {P} h now outcome [] is fewer =
    let size : length h.queue - outcome.dropped ≡ 0 = sym (length-drop outcome.dropped h.queue) ∙ ap length is in
    let none : length h.queue ≡ 0 = elim (cases_lt 0 (length h.queue)) [
      | inl some ↦ absurd (let less = fewer some in omega (arith, size, less))
      | inr none ↦ omega arith
    ] in
    let empty : h.queue ≡ [] = nil_from_length h.queue none in
    let still = no_moves h in
    record {
      placed = λ id. (let before = ap (λ (q : List (Item P)). times id (ids_of q)) empty in
          let after = ap (λ (q : List (Item P)). times id (ids_of (drop 1 q))) is in omega (arith, before, after));
      fewer = still.fewer;
      within = still.within;
      flight = map-append (λ (item : Item P). item.id) h.flight (take 1 (drop outcome.dropped h.queue))
          ∙ ap (λ (q : List (Item P)). ids_of h.flight ++ ids_of (take 1 q)) is ∙ append-nil (ids_of h.flight) ∙ still.flight ∙ ap (λ l. drop (h.released - h.released) l) refl;
      count = refl;
      numbered = λ k below. absurd (omega arith);
    }
moves_picked {P} h now outcome (item ∷ behind) is fewer =
    let line : h.queue ≡ take outcome.dropped h.queue ++ item ∷ behind = sym (take-append-drop outcome.dropped h.queue) ∙ ap (λ (q : List (Item P)). take outcome.dropped h.queue ++ q) is in
    let ids : ids_of h.queue ≡ ids_of (take outcome.dropped h.queue) ++ (item.id ∷ ids_of behind) =
    ap ids_of line ∙ map-append (λ (item : Item P). item.id) (take outcome.dropped h.queue) (item ∷ behind) in
    let sent : ids_of (h.flight ++ take 1 (drop outcome.dropped h.queue)) ≡ ids_of h.flight ++ item.id ∷ [] =
    map-append (λ (item : Item P). item.id) h.flight (take 1 (drop outcome.dropped h.queue)) ∙ ap (λ (q : List (Item P)). ids_of h.flight ++ ids_of (take 1 q)) is in
    let none : h.released - h.released ≡ 0 = omega arith in
    record {
      placed = λ id. (let before = ap (times id) ids in
          let after = ap (λ (q : List (Item P)). times id (ids_of (drop 1 q))) is in
          omega (arith, before, after, times-append id (ids_of (take outcome.dropped h.queue)) (item.id ∷ ids_of behind), times-append id (item.id ∷ []) (ids_of behind)));
      fewer = omega arith;
      within = omega (arith, none);
      flight = sent ∙ sym (ap (λ k. drop k (ids_of h.flight ++ item.id ∷ [])) none);
      count = refl;
      numbered = λ k below. (let first : k ≡ 0 = omega arith in ap (λ i. get_or (next_number h ∷ []) i 0) first ∙ (let e : h.released + length h.flight + 1 ≡ h.released + length h.flight + 1 + k = omega arith in e));
    }

-- the hop of an accepted command is the new one, and every other hop is unchanged
own_hop : {P : Type 0} (s : State P) (hop to : HopId) (h : HopState P) → 0 < to.0 → to.0 ≤ length s.hops → to.0 ≡ hop.0 → hop_at (accept s to h) hop ≡ h
own_hop {P} s hop to h from below same =
    ap (λ n. get_or (set s.hops (to.0 - 1) h) (n - 1) new_hop) (sym same) ∙ get_or-set_same s.hops (to.0 - 1) h new_hop (omega arith)

other_hop : {P : Type 0} (s : State P) (hop to : HopId) (h : HopState P) → 0 < to.0 → 0 < hop.0 → (to.0 ≡ hop.0 → ⊥) → hop_at (accept s to h) hop ≡ hop_at s hop
other_hop {P} s hop to h from hop_from differ = get_or-set_other s.hops (to.0 - 1) (hop.0 - 1) h new_hop (λ same. differ (let e : to.0 ≡ hop.0 = omega (arith, same) in e))

-- a change of one hop, with its account
moves_at : {P : Type 0} (s : State P) (hop to : HopId) (h : HopState P) (tells : HopAccount) → 0 < hop.0 → 0 < to.0 → to.0 ≤ length s.hops
    → Moves (hop_at s to) h tells → Moves (hop_at s hop) (hop_at (accept s to h) hop) (cond (nat_eq to.0 hop.0) tells empty_account)
moves_at {P} s hop to h tells hop_from from below moves = elim (cases_eq to.0 hop.0) [
  | inl same ↦ (let here : hop_at s to ≡ hop_at s hop = ap (λ n. get_or s.hops (n - 1) new_hop) same in
      subst (λ (t : HopAccount). Moves (hop_at s hop) (hop_at (accept s to h) hop) t) (sym (ap (λ b. cond b tells empty_account) (eq-eqb to.0 hop.0 same)))
      (subst (λ (after : HopState P). Moves (hop_at s hop) after tells) (sym (own_hop s hop to h from below same))
      (subst (λ (before : HopState P). Moves before h tells) here moves)))
  | inr differ ↦ subst (λ (t : HopAccount). Moves (hop_at s hop) (hop_at (accept s to h) hop) t) (sym (ap (λ b. cond b tells empty_account) (ne_eqb to.0 hop.0 differ)))
      (subst (λ (after : HopState P). Moves (hop_at s hop) after empty_account) (sym (other_hop s hop to h from hop_from differ)) (no_moves (hop_at s hop)))
]

-- the account of the reply to a pick
told_of_pick : {P : Type 0} (hop to : HopId) (now : ℕ) (h : HopState P) (late count : ℕ) (rest : List (Item P))
    → account_of {P = P} hop (Pick to now) (picked_reply (next_number h) (ids_of (take late h.queue)) (ids_of (take count (drop late h.queue))) rest)
    ≡ cond (nat_eq to.0 hop.0) (and_then (expiry_tells h late) (picked_tells (with_expired h late) count rest)) empty_account
unfolding picked_tells
told_of_pick {P} hop to now h late count [] =
    ap (λ ids. cond (nat_eq to.0 hop.0) (let t : HopAccount = record { taken = []; dropped = []; expired = ids; sent = []; numbers = [] } in t) empty_account)
    (sym (append-nil (ids_of (take late h.queue))))
told_of_pick {P} hop to now h late count (item ∷ behind) =
    ap (λ ids. cond (nat_eq to.0 hop.0) (let t : HopAccount = record { taken = []; dropped = ids_of (take count (drop late h.queue)); expired = ids; sent = item.id ∷ []; numbers = next_number h ∷ [] } in t) empty_account)
    (sym (append-nil (ids_of (take late h.queue))))

-- each step
pub moves_step : {P : Type 0} (len : P → ℕ) (s : State P) (command : Command P) (hop : HopId) → 0 < hop.0
    → Moves (hop_at s hop) (hop_at (step len s command).0 hop) (account_of hop command (step len s command).1)
moves_step {P} len s (Take peer number to stamp limit payload) hop hop_from =
    moves_unless (take_refusal len s peer number to stamp limit (len payload)) s _ hop (Take peer number to stamp limit payload) (take_quiet len s peer number to stamp limit (len payload))
    (λ none. (let may = may_take len s peer number to stamp limit (len payload) none in
    moves_at s hop to (with_taken (hop_at s to) (s.seq + 1) stamp limit payload) (record { taken = (s.seq + 1) ∷ []; dropped = []; expired = []; sent = []; numbers = [] }) hop_from may.hop_from may.hop_to
    (moves_taken (hop_at s to) (s.seq + 1) stamp limit payload)))
moves_step {P} len s (Pick to now) hop hop_from =
    moves_unless (pick_refusal s to now) s _ hop (Pick to now) (pick_quiet s to now)
    (λ none. (let may = may_pick s to now none in
    let h : HopState P = hop_at s to in
    let late : ℕ = expired_count (hop_at s to) now in
    let left : HopState P = after_expiry (hop_at s to) now in
    let after : HopState P = after_pick len s.params (hop_at s to) now in
    let drops : ℕ = (pick_outcome len s.params (hop_at s to) now).dropped in
    let rest : List (Item P) = drop drops left.queue in
    let size = waiting_length len (after_expiry (hop_at s to) now).queue in
    let first = moves_expired h late in
    let second = moves_picked left now (pick_outcome len s.params (hop_at s to) now) rest refl
    (λ some. (let d = dropped-lt s.params (max now (hop_at s to).moment) (waiting_of len (after_expiry (hop_at s to) now).queue) (hop_at s to).codel (rw size some) in omega (arith, d, size))) in
    subst (λ (t : HopAccount). Moves (hop_at s hop) (hop_at (accept s to after) hop) t)
    (sym (told_of_pick hop to now h late drops rest))
    (moves_at s hop to after _ hop_from may.hop_from may.hop_to
    (moves_again h left after (expiry_tells h late) (picked_tells left drops rest) first second))))
moves_step {P} len s (Release to number) hop hop_from =
    moves_unless (release_refusal s to number) s _ hop (Release to number) (release_quiet s to number)
    (λ none. (let may = may_release s to number none in
    subst (λ (t : HopAccount). Moves (hop_at s hop) (hop_at (accept s to (with_released (hop_at s to) (covered_count (hop_at s to) number))) hop) t)
    (elim (nat_eq to.0 hop.0) as (λ b. cond b empty_account empty_account ≡ empty_account) [ true ↦ refl | false ↦ refl ])
    (moves_at s hop to (with_released (hop_at s to) (covered_count (hop_at s to) number)) empty_account hop_from may.hop_from may.hop_to
    (moves_released (hop_at s to) (covered_count (hop_at s to) number) (omega (arith, may.given))))))

-- each list of commands
pub moves_fold : {P : Type 0} (len : P → ℕ) (s : State P) (commands : List (Command P)) (hop : HopId) → 0 < hop.0
    → Moves (hop_at s hop) (hop_at (fold len s commands) hop) (account_along len hop s commands)
moves_fold len s [] hop hop_from = no_moves (hop_at s hop)
moves_fold len s (command ∷ commands) hop hop_from =
    moves_again (hop_at s hop) (hop_at (step len s command).0 hop) (hop_at (fold len (step len s command).0 commands) hop)
    (account_of hop command (step len s command).1) (account_along len hop (step len s command).0 commands)
    (moves_step len s command hop hop_from) (moves_fold len (step len s command).0 commands hop hop_from)

-- the account of a pick or a release has no taken id
pick_takes_none : (P : Type 0) (hop to : HopId) (now : ℕ) (reply : Reply) → (account_of {P = P} hop (Pick to now) reply).taken ≡ []
pick_takes_none P hop to now (Picked number id expired dropped) =
    elim (nat_eq to.0 hop.0) as (λ b. (let t : HopAccount = cond b (record { taken = []; dropped = dropped; expired = expired; sent = id ∷ []; numbers = number ∷ [] }) empty_account in t.taken) ≡ []) [ true ↦ refl | false ↦ refl ]
pick_takes_none P hop to now (Taken id) = refl
pick_takes_none P hop to now (Already last) = refl
pick_takes_none P hop to now (Nothing expired) =
    elim (nat_eq to.0 hop.0) as (λ b. (let t : HopAccount = cond b (record { taken = []; dropped = []; expired = expired; sent = []; numbers = [] }) empty_account in t.taken) ≡ []) [ true ↦ refl | false ↦ refl ]
pick_takes_none P hop to now (Released count) = refl
pick_takes_none P hop to now Unchanged = refl
pick_takes_none P hop to now (Bytes payload limit) = refl
pick_takes_none P hop to now (WindowIs first next) = refl
pick_takes_none P hop to now (Shown status) = refl
pick_takes_none P hop to now (Refused refusal) = refl

-- the id that a step takes is the next one
record Fresh {P : Type 0} (s after : State P) (tells : HopAccount) : Type 0 where
  rises : s.seq ≤ after.seq
  taken : (tells.taken ≡ []) ⊎ ((tells.taken ≡ (s.seq + 1) ∷ []) × (after.seq ≡ s.seq + 1))

fresh_unless : {P : Type 0} (refusal : Option Reply) (s : State P) (accepted : State P × Reply) (hop : HopId) (command : Command P)
    → ((reply : Reply) → refusal ≡ Some reply → IsQuiet reply)
    → Fresh s accepted.0 (account_of hop command accepted.1)
    → Fresh s (unless refusal s accepted).0 (account_of hop command (unless refusal s accepted).1)
fresh_unless None s accepted hop command quiet fresh = fresh
fresh_unless (Some reply) s accepted hop command quiet fresh = record { rises = omega arith; taken = inl (ap (λ (t : HopAccount). t.taken) (quiet_told hop command reply (quiet reply refl))) }

fresh_step : {P : Type 0} (len : P → ℕ) (s : State P) (command : Command P) (hop : HopId) → Fresh s (step len s command).0 (account_of hop command (step len s command).1)
fresh_step len s (Take peer number to stamp limit payload) hop =
    fresh_unless (take_refusal len s peer number to stamp limit (len payload)) s _ hop (Take peer number to stamp limit payload) (take_quiet len s peer number to stamp limit (len payload))
    (record {
      rises = omega arith;
      taken = elim (nat_eq to.0 hop.0) as (λ b. ((let t : HopAccount = cond b (record { taken = (s.seq + 1) ∷ []; dropped = []; expired = []; sent = []; numbers = [] }) empty_account in t.taken) ≡ [])
          ⊎ (((let t : HopAccount = cond b (record { taken = (s.seq + 1) ∷ []; dropped = []; expired = []; sent = []; numbers = [] }) empty_account in t.taken) ≡ (s.seq + 1) ∷ []) × (s.seq + 1 ≡ s.seq + 1))) [ true ↦ inr (refl, refl) | false ↦ inl refl ];
    })
fresh_step {P} len s (Pick to now) hop =
    fresh_unless (pick_refusal s to now) s _ hop (Pick to now) (pick_quiet s to now)
    (record { rises = omega arith; taken = inl (pick_takes_none P hop to now (pick_reply (hop_at s to) (expired_count (hop_at s to) now) (pick_outcome len s.params (hop_at s to) now).dropped)) })
fresh_step len s (Release to number) hop =
    fresh_unless (release_refusal s to number) s _ hop (Release to number) (release_quiet s to number) (record { rises = omega arith; taken = inl refl })

times_other : (id x : ℕ) → (x ≡ id → ⊥) → times id (x ∷ []) ≡ 0
times_other id x differ =
    let is : ℕ → Bool = λ other. nat_eq other id in
    sym (length-filter is (x ∷ [])) ∙ ap (λ b. length (cond b (x ∷ []) [])) (ne_eqb x id differ)

-- no id is taken twice, nor is one of those before
taken_once : {P : Type 0} (len : P → ℕ) (hop : HopId) (s : State P) (commands : List (Command P)) (id : ℕ)
    → (times id (account_along len hop s commands).taken ≤ 1) × (id ≤ s.seq → times id (account_along len hop s commands).taken ≡ 0)
taken_once len hop s [] id = (omega arith, λ old. refl)
taken_once {P} len hop s (command ∷ commands) id =
    let fresh = fresh_step len s command hop in
    let rest = taken_once len hop (step len s command).0 commands id in
    let first : List ℕ = (account_of hop command (step len s command).1).taken in
    let parts = times-append id (account_of hop command (step len s command).1).taken (account_along len hop (step len s command).0 commands).taken in
    elim fresh.taken [
      | inl none ↦ (let e = ap (times id) none in
          (omega (arith, parts, e, rest.0), λ old. (let later = rest.1 (omega (arith, old, fresh.rises)) in omega (arith, parts, e, later))))
      | inr one ↦ (let e = ap (times id) one.0 in
          elim (cases_eq (s.seq + 1) id) [
            | inl same ↦ (let later = rest.1 (omega (arith, one.1, same)) in
                (omega (arith, parts, e, later, count_by-le-length (λ other. nat_eq other id) ((s.seq + 1) ∷ [])), λ old. absurd (omega (arith, same, old))))
            | inr differ ↦ (let zero_times = times_other id (s.seq + 1) differ in
                (omega (arith, parts, e, zero_times, rest.0), λ old. (let later = rest.1 (omega (arith, old, fresh.rises)) in omega (arith, parts, e, zero_times, later))))
          ])
    ]

-- at one of two hops the account of a reply has no taken id
apart : {P : Type 0} (a b : HopId) → (a.0 ≡ b.0 → ⊥) → (command : Command P) (reply : Reply) → ((account_of a command reply).taken ≡ []) ⊎ ((account_of b command reply).taken ≡ [])
apart a b differ (Take peer number to stamp limit payload) (Taken id) =
    let at : Bool → HopAccount = λ is. cond is (record { taken = id ∷ []; dropped = []; expired = []; sent = []; numbers = [] }) empty_account in
    elim (cases_eq to.0 a.0) [
      | inl here ↦ inr (ap (λ is. (at is).taken) (ne_eqb to.0 b.0 (λ there. differ (sym here ∙ there))))
      | inr elsewhere ↦ inl (ap (λ is. (at is).taken) (ne_eqb to.0 a.0 elsewhere))
    ]
apart a b differ (Take peer number to stamp limit payload) (Already last) = inl refl
apart a b differ (Take peer number to stamp limit payload) (Picked number' id expired dropped) = inl refl
apart a b differ (Take peer number to stamp limit payload) (Nothing expired) = inl refl
apart a b differ (Take peer number to stamp limit payload) (Released count) = inl refl
apart a b differ (Take peer number to stamp limit payload) Unchanged = inl refl
apart a b differ (Take peer number to stamp limit payload) (Bytes payload' limit') = inl refl
apart a b differ (Take peer number to stamp limit payload) (WindowIs first next) = inl refl
apart a b differ (Take peer number to stamp limit payload) (Shown status) = inl refl
apart a b differ (Take peer number to stamp limit payload) (Refused refusal) = inl refl
apart {P} a b differ (Pick to now) reply = inl (pick_takes_none P a to now reply)
apart a b differ (Release to number) reply = inl refl

-- one more id keeps two counts at one
one_more : (id seq after : ℕ) (first : List ℕ) (x y : ℕ) → (first ≡ []) ⊎ ((first ≡ (seq + 1) ∷ []) × (after ≡ seq + 1))
    → (id ≤ after → x ≡ 0) → (id ≤ after → y ≡ 0) → x + y ≤ 1 → times id first + x + y ≤ 1
one_more id seq after first x y taken old-x old-y below =
    elim taken [
      | inl none ↦ (let e = ap (times id) none in omega (arith, e, below))
      | inr one ↦ (let e = ap (times id) one.0 in
          elim (cases_eq (seq + 1) id) [
            | inl same ↦ (let zero-x = old-x (omega (arith, one.1, same)) in
                let zero-y = old-y (omega (arith, one.1, same)) in
                omega (arith, e, zero-x, zero-y, count_by-le-length (λ other. nat_eq other id) ((seq + 1) ∷ [])))
            | inr differ ↦ (let zero_times = times_other id (seq + 1) differ in omega (arith, e, zero_times, below))
          ])
    ]

-- no id is taken at two hops
pub taken_apart : {P : Type 0} (len : P → ℕ) (a b : HopId) → (a.0 ≡ b.0 → ⊥) → (s : State P) (commands : List (Command P)) (id : ℕ)
    → times id (account_along len a s commands).taken + times id (account_along len b s commands).taken ≤ 1
taken_apart len a b differ s [] id = omega arith
taken_apart {P} len a b differ s (command ∷ commands) id =
    let after : State P = (step len s command).0 in
    let reply : Reply = (step len s command).1 in
    let later-a = taken_once len a after commands id in
    let later-b = taken_once len b after commands id in
    let rest = taken_apart len a b differ after commands id in
    let parts-a = times-append id (account_of a command reply).taken (account_along len a after commands).taken in
    let parts-b = times-append id (account_of b command reply).taken (account_along len b after commands).taken in
    elim (apart a b differ command reply) [
      | inl none ↦ (let e = ap (times id) none in
          let more = one_more id s.seq after.seq (account_of b command reply).taken _ _ (fresh_step len s command b).taken later-a.1 later-b.1 rest in
          omega (arith, parts-a, parts-b, e, more))
      | inr none ↦ (let e = ap (times id) none in
          let more = one_more id s.seq after.seq (account_of a command reply).taken _ _ (fresh_step len s command a).taken later-a.1 later-b.1 rest in
          omega (arith, parts-a, parts-b, e, more))
    ]

-- the items of each hop of a new spool
pub custody_kept : {P : Type 0} (len : P → ℕ) (params : Params) (commands : List (Command P)) (hop : HopId) → has_hop (new_state {P = P} params) hop ≡ true
    → KeepsCustody (hop_at (fold len (new_state params) commands) hop) (account_along len hop (new_state params) commands)
custody_kept {P} len params commands hop there =
    let s : State P = new_state params in
    let found = among (length (replicate params.hops (let h : HopState P = new_hop in h))) hop.0 there in
    let moves = moves_fold len s commands hop found.0 in
    let size = length-replicate params.hops (let h : HopState P = new_hop in h) in
    let start : hop_at s hop ≡ new_hop = get_or-replicate params.hops (hop.0 - 1) (let h : HopState P = new_hop in h) new_hop (omega (arith, found.0, found.1, size)) in
    let moves' = subst (λ (h : HopState P). Moves h (hop_at (fold len (new_state params) commands) hop) (account_along len hop (new_state params) commands)) start moves in
    record {
      once = λ id. (taken_once len hop s commands id).0;
      placed = λ id. omega (arith, moves'.placed id);
      flight = moves'.flight ∙ ap (λ k. drop k (account_along len hop (new_state params) commands).sent) (let e : (hop_at (fold len (new_state params) commands) hop).released - 0 ≡ (hop_at (fold len (new_state params) commands) hop).released = omega arith in e);
      released = omega (arith, moves'.within);
      count = moves'.count;
      numbered = λ k below. (let at = moves'.numbered k below in omega (arith, at));
    }
