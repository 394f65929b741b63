-- An accepted Pick keeps a state sound.
use Rattle.std.proofs.Common.{ℕ, ◌≡◌, ◌+◌, ◌-◌, ◌^◌, ◌<◌, ◌≤◌, max, List, ◌++◌, length, get_or, take, drop, refl, arith, sym, ◌∙◌, ap, inl, inr}
use Rattle.std.proofs.lemmas.Bool.{cases_lt}
use Rattle.std.specs.List.{All, AllPairs}
use Rattle.std.proofs.lemmas.List.{append_assoc, drop-drop, get_or-drop, get_or_append_left, get_or-append-add, get_or-append_right, length-append, length-drop, length-map, length-take, take-append-drop}
use Rattle.std.proofs.lemmas.List.Elements.{All-append, All-drop, All-get_or, All-weaker}
use Rattle.std.proofs.lemmas.List.Sums.{prefix_len-le-length, sum_by-append, sum_by-take-drop}
use Rattle.rly_codel.proofs.Bounds.{dropped-lt, dropped-empty, first_above_time-le, drop_next-le, lastcount-le, count-le}
use Rattle.rly_codel.specs.Cases.{DequeueOutcome}
use Rattle.rly_codel.specs.LaneItems.{LaneItem}
use Rattle.rly_core.specs.declared.ids.HopId.{HopId}
use Rattle.rly_core.specs.declared.params.Params.{Params}
use Rattle.rly_core.specs.Limits.{IsWithinLimits}
use Rattle.rly_machine.specs.declared.hop.Item.{Item}
use Rattle.rly_machine.specs.Accepted.{accept}
use Rattle.rly_machine.specs.Expiry.{after_expiry, expired_count, is_expired, with_expired}
use Rattle.rly_machine.specs.Pick.{after_pick, outcome_of, pick_outcome, waiting_of, with_picked}
use Rattle.rly_machine.specs.Sound.{ComesBefore, IsLive, IsSound, IsSoundHop}
use Rattle.rly_machine.specs.State.{State, HopState, bytes_of, hop_at, live_bytes, live_items, live_line, new_hop}
use Rattle.rly_machine.proofs.Refusals.{MayPick}
use Rattle.rly_machine.proofs.Soundness.{bytes_after, items_after, live_later, sound_accept}

-- the front of a list and the rest
pub front_all : {X : Type 0} (P : X → Type 0) (xs ys : List X) → All P (xs ++ ys) → All P xs
front_all P xs ys all k d below =
    let in_all : k < length (xs ++ ys) = omega (arith, length-append xs ys) in
    rw (← get_or_append_left xs ys d k below) (all k d in_all)

pub back_all : {X : Type 0} (P : X → Type 0) (xs ys : List X) → All P (xs ++ ys) → All P ys
back_all P xs ys all k d below =
    let in_all : length xs + k < length (xs ++ ys) = omega (arith, length-append xs ys) in
    let same : get_or (xs ++ ys) (length xs + k) d ≡ get_or ys k d = get_or-append-add xs ys k d in
    rw (← same) (all (length xs + k) d in_all)

-- an element after the removed middle items
behind_gap : {X : Type 0} (xs ys : List X) (n j : ℕ) (d : X) → length xs ≤ j → get_or (xs ++ drop n ys) j d ≡ get_or (xs ++ ys) (length xs + (n + (j - length xs))) d
behind_gap xs ys n j d past =
    get_or-append_right xs (drop n ys) (length xs) j d refl past
    ∙ get_or-drop n ys (j - length xs) d
    ∙ sym (get_or-append-add xs ys (n + (j - length xs)) d)

-- an element before them
before_gap : {X : Type 0} (xs ys : List X) (n i : ℕ) (d : X) → i < length xs → get_or (xs ++ drop n ys) i d ≡ get_or (xs ++ ys) i d
before_gap xs ys n i d first = get_or_append_left xs (drop n ys) d i first ∙ sym (get_or_append_left xs ys d i first)

-- a list in order, with middle items removed
ordered_gap : {X : Type 0} (R : X → X → Type 0) (xs ys : List X) (n : ℕ) → AllPairs R (xs ++ ys) → AllPairs R (xs ++ drop n ys)
ordered_gap R xs ys n order i j d i<j j<n =
    let in_gap : j < length xs + (length ys - n) = simp (length-append, length-drop) at j<n in
    let all : length (xs ++ ys) ≡ length xs + length ys = length-append xs ys in
    elim (cases_lt j (length xs)) [
      | inl front ↦ (let first : i < length xs = omega arith in
          let j_in : j < length (xs ++ ys) = omega arith in
          rw (before_gap xs ys n i d first) (rw (before_gap xs ys n j d front) (order i j d i<j j_in)))
      | inr back ↦ elim (cases_lt i (length xs)) [
        | inl first ↦ (let j_in : length xs + (n + (j - length xs)) < length (xs ++ ys) = omega arith in
            rw (before_gap xs ys n i d first) (rw (behind_gap xs ys n j d back) (order i (length xs + (n + (j - length xs))) d (omega arith) j_in)))
        | inr behind ↦ (let j_in : length xs + (n + (j - length xs)) < length (xs ++ ys) = omega arith in
            rw (behind_gap xs ys n i d behind) (rw (behind_gap xs ys n j d back) (order (length xs + (n + (i - length xs))) (length xs + (n + (j - length xs))) d (omega arith) j_in)))
      ]
    ]

-- the items in flight and in the queue after a number were dropped and the next one sent
picked_line : {X : Type 0} (flight queue : List X) (n : ℕ) → (flight ++ take 1 (drop n queue)) ++ drop 1 (drop n queue) ≡ flight ++ drop n queue
picked_line flight queue n =
    append_assoc flight (take 1 (drop n queue)) (drop 1 (drop n queue))
    ∙ ap (λ rest. flight ++ rest) (take-append-drop 1 (drop n queue))

-- a hop whose first waiting items expired
pub sound_expired : {P : Type 0} (len : P → ℕ) (params : Params) (seq count : ℕ) (h : HopState P)
    → count ≤ length h.queue → IsSoundHop len params seq h → IsSoundHop len params seq (with_expired h count)
sound_expired len params seq count h within sound = record {
  balance = omega (arith, length-drop count h.queue, sound.balance);
  taken = sound.taken;
  moment = sound.moment;
  window = sound.window;
  items = All-append (IsLive len params h.moment seq) h.flight (drop count h.queue)
      (front_all (IsLive len params h.moment seq) h.flight h.queue sound.items)
      (All-drop (IsLive len params h.moment seq) count h.queue (back_all (IsLive len params h.moment seq) h.flight h.queue sound.items));
  order = ordered_gap ComesBefore h.flight h.queue count sound.order;
  first_above_time = sound.first_above_time;
  drop_next = sound.drop_next;
  lastcount = sound.lastcount;
  count = sound.count;
}

-- at most the waiting items expire
pub expired_within : {P : Type 0} (h : HopState P) (now : ℕ) → expired_count h now ≤ length h.queue
expired_within h now = prefix_len-le-length (is_expired (max now h.moment)) h.queue

-- the bounds of CoDel's decision
pub record IsFair {P : Type 0} (params : Params) (h : HopState P) (now : ℕ) (outcome : DequeueOutcome) : Type 0 where
  pub dropped : outcome.dropped ≤ length h.queue
  pub first_above_time : outcome.state.first_above_time ≤ max now h.moment + params.interval
  pub drop_next : outcome.state.drop_next ≤ max now h.moment + params.interval
  pub lastcount : outcome.state.lastcount ≤ outcome.state.count
  pub count : outcome.state.count ≤ h.dropped + outcome.dropped

-- and its proof
pub fair_outcome : {P : Type 0} (len : P → ℕ) (params : Params) (seq now : ℕ) (h : HopState P)
    → IsWithinLimits params → IsSoundHop len params seq h → IsFair params h now (outcome_of len params h now)
fair_outcome {P} len params seq now h within sound =
    let queue : List LaneItem = waiting_of len h.queue in
    let size : length (waiting_of len h.queue) ≡ length h.queue = length-map h.queue (λ (item : Item P). let w : LaneItem = record { stamp = item.stamp; bytes = len item.payload } in w) in
    let moment : ℕ = max now h.moment in
    let above = first_above_time-le params (max now h.moment) (waiting_of len h.queue) h.codel in
    let next = drop_next-le params (max now h.moment) (waiting_of len h.queue) h.codel (omega (arith, within.interval)) in
    record {
      dropped = elim (cases_lt 0 (length h.queue)) [
        | inl some ↦ (let d = dropped-lt params (max now h.moment) (waiting_of len h.queue) h.codel (rw size some) in omega (arith, d, size))
        | inr none ↦ (let d = dropped-empty params (max now h.moment) (waiting_of len h.queue) h.codel (omega (arith, size, none)) in omega (arith, d))
      ];
      first_above_time = omega (arith, above, sound.first_above_time);
      drop_next = omega (arith, next, sound.drop_next);
      lastcount = lastcount-le params (max now h.moment) (waiting_of len h.queue) h.codel sound.lastcount;
      count = omega (arith, count-le params (max now h.moment) (waiting_of len h.queue) h.codel, sound.count);
    }

-- a hop after an accepted Pick
pub sound_picked : {P : Type 0} (len : P → ℕ) (params : Params) (seq now : ℕ) (h : HopState P) (outcome : DequeueOutcome)
    → now < 2 ^ 52 → length h.flight < params.window → IsFair params h now outcome → IsSoundHop len params seq h
    → IsSoundHop len params (seq + 1) (with_picked h now outcome)
sound_picked {P} len params seq now h outcome early window fair sound =
    let moment : ℕ = max now h.moment in
    let rest : List (Item P) = drop outcome.dropped h.queue in
    let line = picked_line h.flight h.queue outcome.dropped in
    let known : All (IsLive len params (max now h.moment) (seq + 1)) (h.flight ++ h.queue) =
    All-weaker (IsLive len params h.moment seq) (IsLive len params (max now h.moment) (seq + 1)) (λ item live. live_later len params h.moment (max now h.moment) seq (seq + 1) item (omega arith) (omega arith) live) (h.flight ++ h.queue) sound.items in
    let rest_length = length-drop outcome.dropped h.queue in
    let sent = length-take 1 (drop outcome.dropped h.queue) in
    let left = length-drop 1 (drop outcome.dropped h.queue) in
    let flight = length-append h.flight (take 1 (drop outcome.dropped h.queue)) in
    record {
      balance = omega (arith, rest_length, sent, left, flight, fair.dropped, sound.balance);
      taken = omega (arith, sound.taken);
      moment = omega (arith, sound.moment);
      window = omega (arith, sent, flight);
      items = rw line (All-append (IsLive len params (max now h.moment) (seq + 1)) h.flight (drop outcome.dropped h.queue)
          (front_all (IsLive len params (max now h.moment) (seq + 1)) h.flight h.queue known)
          (All-drop (IsLive len params (max now h.moment) (seq + 1)) outcome.dropped h.queue (back_all (IsLive len params (max now h.moment) (seq + 1)) h.flight h.queue known)));
      order = rw line (ordered_gap ComesBefore h.flight h.queue outcome.dropped sound.order);
      first_above_time = fair.first_above_time;
      drop_next = fair.drop_next;
      lastcount = fair.lastcount;
      count = fair.count;
    }

-- the live items and bytes that a Pick removes: the first ones expired, and those after them were dropped
pub items_picked : {P : Type 0} (s : State P) (hop : HopId) (now late : ℕ) (outcome : DequeueOutcome) → 0 < hop.0 → hop.0 ≤ length s.hops
    → late + outcome.dropped ≤ length (hop_at s hop).queue
    → live_items (accept s hop (with_picked (with_expired (hop_at s hop) late) now outcome)) + (late + outcome.dropped) ≡ live_items s
items_picked {P} s hop now late outcome from to within =
    let h = hop_at s hop in
    let after = items_after s hop (with_picked (with_expired h late) now outcome) from to in
    let line : length (live_line (with_picked (with_expired h late) now outcome)) ≡ length (h.flight ++ drop outcome.dropped (drop late h.queue)) =
    ap length (picked_line h.flight (drop late h.queue) outcome.dropped) in
    omega (
      arith,
      after,
      line,
      length-append h.flight (drop outcome.dropped (drop late h.queue)),
      length-append h.flight h.queue,
      length-drop outcome.dropped (drop late h.queue),
      length-drop late h.queue,
    )

pub bytes_picked : {P : Type 0} (len : P → ℕ) (s : State P) (hop : HopId) (now late : ℕ) (outcome : DequeueOutcome)
    → 0 < hop.0 → hop.0 ≤ length s.hops
    → live_bytes len (accept s hop (with_picked (with_expired (hop_at s hop) late) now outcome))
    + bytes_of len (take (late + outcome.dropped) (hop_at s hop).queue) ≡ live_bytes len s
bytes_picked {P} len s hop now late outcome from to =
    let h = hop_at s hop in
    let length_of : Item P → ℕ = λ item. len item.payload in
    let after = bytes_after len s hop (with_picked (with_expired h late) now outcome) from to in
    let line : bytes_of len (live_line (with_picked (with_expired h late) now outcome)) ≡ bytes_of len (h.flight ++ drop (late + outcome.dropped) h.queue) =
    ap (bytes_of len) (picked_line h.flight (drop late h.queue) outcome.dropped)
    ∙ ap (λ (rest : List (Item P)). bytes_of len (h.flight ++ rest)) (drop-drop outcome.dropped late h.queue) in
    let new = sum_by-append length_of h.flight (drop (late + outcome.dropped) h.queue) in
    let old = sum_by-append length_of h.flight h.queue in
    let parts = sum_by-take-drop length_of h.queue (late + outcome.dropped) in
    omega (arith, after, line, new, old, parts)

-- a hop without the items that expire at a pick
pub sound_after_expiry : {P : Type 0} (len : P → ℕ) (params : Params) (seq now : ℕ) (h : HopState P)
    → IsSoundHop len params seq h → IsSoundHop len params seq (after_expiry h now)
sound_after_expiry len params seq now h sound = sound_expired len params seq (expired_count h now) h (expired_within h now) sound

-- the waiting items that expire and are dropped at a pick
pub gone_within : {P : Type 0} (len : P → ℕ) (params : Params) (seq now : ℕ) (h : HopState P)
    → IsWithinLimits params → IsSoundHop len params seq h
    → expired_count h now + (pick_outcome len params h now).dropped ≤ length h.queue
gone_within len params seq now h within sound =
    let fair = fair_outcome len params seq now (after_expiry h now) within (sound_after_expiry len params seq now h sound) in
    omega (arith, fair.dropped, length-drop (expired_count h now) h.queue, expired_within h now)

-- an accepted Pick keeps a spool sound
pub sound_pick : {P : Type 0} (len : P → ℕ) (s : State P) (hop : HopId) (now : ℕ) → IsSound len s → MayPick s hop now
    → IsSound len (accept s hop (after_pick len s.params (hop_at s hop) now))
sound_pick {P} len s hop now sound may =
    let place : hop.0 - 1 < length s.hops = omega (arith, may.hop_from, may.hop_to) in
    let h : HopState P = hop_at s hop in
    let old = All-get_or (IsSoundHop len s.params s.seq) s.hops (hop.0 - 1) new_hop place sound.hops in
    let left = sound_after_expiry len s.params s.seq now (hop_at s hop) old in
    let fair = fair_outcome len s.params s.seq now (after_expiry (hop_at s hop) now) sound.params left in
    let gone = gone_within len s.params s.seq now (hop_at s hop) sound.params old in
    sound_accept len s hop (after_pick len s.params (hop_at s hop) now) s.lasts sound may.hop_from may.hop_to may.seq
    (sound_picked len s.params s.seq now (after_expiry (hop_at s hop) now) (pick_outcome len s.params (hop_at s hop) now) may.moment may.window fair left)
    refl
    (All-weaker (λ n. n ≤ s.seq) (λ n. n ≤ s.seq + 1) (λ n was. omega arith) s.lasts sound.lasts)
    refl
    (omega (arith, items_picked s hop now (expired_count (hop_at s hop) now) (pick_outcome len s.params (hop_at s hop) now) may.hop_from may.hop_to gone, sound.items))
    (omega (arith, bytes_picked len s hop now (expired_count (hop_at s hop) now) (pick_outcome len s.params (hop_at s hop) now) may.hop_from may.hop_to, sound.bytes))
