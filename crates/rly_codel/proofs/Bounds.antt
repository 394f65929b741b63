-- Bounds of a dequeue, for any lane and state: the last item is never dropped, and the state's times and counts stay
-- within bounds.
use Rattle.std.proofs.Common.{◌≡◌, ℕ, zero, suc, ◌+◌, ◌-◌, ◌*◌, ◌^◌, ◌<◌, ◌≤◌, max, Bool, true, false, ◌&&◌, nat_eq, nat_lt, if◌then◌else◌, List, [], ◌∷◌, length, refl, arith, inl, inr}
use Rattle.std.proofs.lemmas.Bool.{cases_Bool, and_parts, ltb-false, ltb-true}
use Rattle.std.proofs.lemmas.Bool.Decides.{nat_tests}
use Rattle.rly_core.specs.declared.params.Params.{Params}
use Rattle.rly_law.specs.ControlLaw.{step_of}
use Rattle.rly_law.proofs.Steps.{step_of-le}
use Rattle.rly_codel.specs.LaneItems.{LaneItem}
use Rattle.rly_codel.specs.Front.{is_over, front_of, is_armed}
use Rattle.rly_codel.specs.DropTimes.{drop_time, least_below, drops_due}
use Rattle.rly_codel.specs.Cases.{DequeueOutcome, dequeue_of, unarmed_outcome, below_target, phase_begins, phase_goes_on, first_count}
use Rattle.rly_codel.specs.declared.state.CodelState.{CodelState}

-- the last item isn't over, since nothing waits after it
front_of-le : (p : Params) (now : ℕ) (item : LaneItem) (behind : List LaneItem) →
    front_of p now (item ∷ behind) ≤ length behind
front_of-le p now item [] =
    elim (cases_Bool (is_over p now item [])) [
      | inl over ↦ absurd (impossible over)
      | inr below ↦ rw below (omega arith)
    ]
  where
    impossible : is_over p now item [] ≡ true → ⊥
    impossible over = grind (arith, nat_tests)
front_of-le p now item (next ∷ behind) =
    elim (cases_Bool (is_over p now item (next ∷ behind))) [
      | inl over ↦
          (let rest : front_of p now (next ∷ behind) ≤ length behind = front_of-le p now next behind in
          rw over (omega arith))
      | inr below ↦ rw below (omega arith)
    ]

-- an empty front has no bytes waiting, and the front of a lane that isn't empty is shorter than the lane
front_of-lt : (p : Params) (now : ℕ) (q : List LaneItem) → 0 < length q → front_of p now q < length q
front_of-lt p now [] h = absurd (omega arith)
front_of-lt p now (item ∷ behind) h =
    let short : front_of p now (item ∷ behind) ≤ length behind = front_of-le p now item behind in omega arith

front_of-empty : (p : Params) (now : ℕ) (q : List LaneItem) → length q ≡ 0 → front_of p now q ≡ 0
front_of-empty p now [] h = refl
front_of-empty p now (item ∷ behind) h = absurd (omega arith)

-- a property of both values holds for the one that a test selects
both : (P : DequeueOutcome → Type 0) (test : Bool) (x y : DequeueOutcome) → P x → P y → P (if test then x else y)
both P true x y holds_x holds_y = holds_x
both P false x y holds_x holds_y = holds_y

-- a property of a dequeue follows from that of each case
dequeue_of-cases : (P : DequeueOutcome → Type 0) (p : Params) (now : ℕ) (q : List LaneItem) (s : CodelState) →
    P (unarmed_outcome p now (front_of p now q) s) → P (below_target s) →
    (0 < front_of p now q → P (phase_goes_on p now (front_of p now q) s)) →
    (0 < front_of p now q → P (phase_begins p now (front_of p now q) s)) →
    P (dequeue_of p now q s)
unfolding dequeue_of
dequeue_of-cases P p now q s idle below goes_on begins =
    elim (cases_Bool (is_armed now s)) [
      | inr unset ↦ rw unset idle
      | inl armed ↦
          elim (cases_Bool (nat_eq (front_of p now q) 0)) [
            | inl none ↦ rw (armed, none) below
            | inr some ↦
                (let there : 0 < front_of p now q = grind (arith, nat_tests) in
                rw (armed, some) (both P s.dropping _ _ (goes_on there) (begins there)))
          ]
    ]

-- no number below the least one that passes passes
least_below-before : (f : ℕ → Bool) (bound j : ℕ) → j < least_below f bound → f j ≡ false
least_below-before f zero j h = absurd (omega arith)
least_below-before f (suc bound) zero h =
    elim (cases_Bool (f 0)) [
      | inl first ↦ absurd (let none : 0 < 0 = rw first at h in omega arith)
      | inr later ↦ later
    ]
least_below-before f (suc bound) (suc j) h =
    elim (cases_Bool (f 0)) [
      | inl first ↦ absurd (let none : suc j < 0 = rw first at h in omega arith)
      | inr later ↦
          (let below : suc j < suc (least_below (λ i. f (suc i)) bound) = rw later at h in
          least_below-before (λ i. f (suc i)) bound j (omega arith))
    ]

-- a property of a continued phase follows from that of a number of due drops, and of the whole front
phase_goes_on-cases : (P : DequeueOutcome → Type 0) (p : Params) (now m : ℕ) (s : CodelState) →
    ((k : ℕ) → k < m → ((i : ℕ) → i < k → drop_time (step_of p.interval) s.drop_next s.count i ≤ now) →
    P (record {
      dropped = k;
      state = record s {
        count = s.count + k;
        drop_next = drop_time (step_of p.interval) s.drop_next s.count k;
      };
    })) →
    (((i : ℕ) → i < m → drop_time (step_of p.interval) s.drop_next s.count i ≤ now) →
    P (record {
      dropped = m;
      state = record s {
        first_above_time = 0;
        drop_next = drop_time (step_of p.interval) s.drop_next s.count (m - 1);
        count = s.count + m;
        dropping = false;
      };
    })) →
    P (phase_goes_on p now m s)
phase_goes_on-cases P p now m s some all =
    let step : ℕ → ℕ = step_of p.interval in
    let k : ℕ = drops_due step now s.drop_next s.count m in
    let due : (i : ℕ) → i < k → drop_time step s.drop_next s.count i ≤ now =
    λ i h. ltb-false _ _ (least_below-before (λ j. nat_lt now (drop_time step s.drop_next s.count j)) m i h) in
    elim (cases_Bool (nat_lt k m)) [
      | inl more ↦ rw more (some k (ltb-true k m more) due)
      | inr whole ↦ (let reached : m ≤ k = ltb-false k m whole in rw whole (all (λ i h. due i (omega arith))))
    ]

-- a drop time whose earlier ones have passed is at most an interval from now
drop_time-le : (p : Params) (now drop_next count j : ℕ) → p.interval < 2 ^ 32 →
    ((i : ℕ) → i < j → drop_time (step_of p.interval) drop_next count i ≤ now) →
    drop_time (step_of p.interval) drop_next count j ≤ max drop_next (now + p.interval)
drop_time-le p now drop_next count zero short due = omega arith
drop_time-le p now drop_next count (suc j) short due =
    let passed : drop_time (step_of p.interval) drop_next count j ≤ now = due j (omega arith) in
    let spacing : step_of p.interval (count + suc j) ≤ p.interval = step_of-le p.interval (count + suc j) short (omega arith) in
    omega arith

-- the initial count of a phase is at least 1, and at most one more than the previous count
first_count-ge : (p : Params) (now : ℕ) (s : CodelState) → (1 ≤ first_count p now s) × (first_count p now s ≤ s.count + 1)
first_count-ge p now s =
    elim (cases_Bool (nat_lt 1 (s.count - s.lastcount) && nat_lt now (s.drop_next + 16 * p.interval))) [
      | inl on ↦
          (let several : 1 < s.count - s.lastcount = ltb-true _ _ (and_parts _ _ on).0 in
          rw on (omega arith, omega arith))
      | inr one ↦ rw one (omega arith, omega arith)
    ]

-- the drops are at most the front
dropped-le : (p : Params) (now : ℕ) (q : List LaneItem) (s : CodelState) → (dequeue_of p now q s).dropped ≤ front_of p now q
dropped-le p now q s =
    dequeue_of-cases (λ o. o.dropped ≤ front_of p now q) p now q s
    (omega arith)
    (omega arith)
    (λ some. phase_goes_on-cases (λ o. o.dropped ≤ front_of p now q) p now (front_of p now q) s
    (λ k h due. omega arith) (λ due. omega arith))
    (λ some. omega arith)

-- the last item is never dropped
pub dropped-lt : (p : Params) (now : ℕ) (q : List LaneItem) (s : CodelState) → 0 < length q →
    (dequeue_of p now q s).dropped < length q
dropped-lt p now q s h = omega (arith, dropped-le p now q s, front_of-lt p now q h)

-- an empty lane has no drops
pub dropped-empty : (p : Params) (now : ℕ) (q : List LaneItem) (s : CodelState) → length q ≡ 0 →
    (dequeue_of p now q s).dropped ≡ 0
dropped-empty p now q s h = omega (arith, dropped-le p now q s, front_of-empty p now q h)

-- first_above_time is unchanged, or an interval from now, or 0
pub first_above_time-le : (p : Params) (now : ℕ) (q : List LaneItem) (s : CodelState) →
    (dequeue_of p now q s).state.first_above_time ≤ max s.first_above_time (now + p.interval)
first_above_time-le p now q s =
    dequeue_of-cases (λ o. o.state.first_above_time ≤ max s.first_above_time (now + p.interval)) p now q s
    (picked (nat_eq (front_of p now q) 0) (nat_eq s.first_above_time 0))
    (omega arith)
    (λ some. phase_goes_on-cases (λ o. o.state.first_above_time ≤ max s.first_above_time (now + p.interval)) p now
    (front_of p now q) s (λ k h due. omega arith) (λ due. omega arith))
    (λ some. begun (nat_eq (front_of p now q) 1))
  where
    picked : (none unset : Bool) →
        (if none then 0 else (if unset then now + p.interval else s.first_above_time))
        ≤ max s.first_above_time (now + p.interval)
    picked true unset = omega arith
    picked false true = omega arith
    picked false false = omega arith

    begun : (one : Bool) → (if one then 0 else s.first_above_time) ≤ max s.first_above_time (now + p.interval)
    begun true = omega arith
    begun false = omega arith

-- drop_next is unchanged, or at most an interval from now
pub drop_next-le : (p : Params) (now : ℕ) (q : List LaneItem) (s : CodelState) → p.interval < 2 ^ 32 →
    (dequeue_of p now q s).state.drop_next ≤ max s.drop_next (now + p.interval)
drop_next-le p now q s short =
    dequeue_of-cases (λ o. o.state.drop_next ≤ max s.drop_next (now + p.interval)) p now q s
    (omega arith)
    (omega arith)
    (λ some. phase_goes_on-cases (λ o. o.state.drop_next ≤ max s.drop_next (now + p.interval)) p now
    (front_of p now q) s
    (λ k h due. drop_time-le p now s.drop_next s.count k short due)
    (λ due. drop_time-le p now s.drop_next s.count (front_of p now q - 1) short (λ i h. due i (omega arith))))
    (λ some.
    let spacing : step_of p.interval (first_count p now s) ≤ p.interval =
    step_of-le p.interval (first_count p now s) short (first_count-ge p now s).0 in
    omega arith)

-- lastcount never passes count
pub lastcount-le : (p : Params) (now : ℕ) (q : List LaneItem) (s : CodelState) → s.lastcount ≤ s.count →
    (dequeue_of p now q s).state.lastcount ≤ (dequeue_of p now q s).state.count
lastcount-le p now q s h =
    dequeue_of-cases (λ o. o.state.lastcount ≤ o.state.count) p now q s h h
    (λ some. phase_goes_on-cases (λ o. o.state.lastcount ≤ o.state.count) p now (front_of p now q) s
    (λ k below due. omega arith) (λ due. omega arith))
    (λ some. omega arith)

-- the count grows by at most the number of items dropped
pub count-le : (p : Params) (now : ℕ) (q : List LaneItem) (s : CodelState) →
    (dequeue_of p now q s).state.count ≤ s.count + (dequeue_of p now q s).dropped
count-le p now q s =
    dequeue_of-cases (λ o. o.state.count ≤ s.count + o.dropped) p now q s
    (omega arith)
    (omega arith)
    (λ some. phase_goes_on-cases (λ o. o.state.count ≤ s.count + o.dropped) p now (front_of p now q) s
    (λ k below due. omega arith) (λ due. omega arith))
    (λ some. (first_count-ge p now s).1)
