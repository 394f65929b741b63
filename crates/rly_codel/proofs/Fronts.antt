-- The result of dodequeue, by the front of the queue and by whether CoDel is armed.
use Rattle.std.proofs.Common.{◌<◌, length, ◌≡◌, ℕ, zero, suc, ◌+◌, ◌-◌, true, false, ◌&&◌, ◌||◌, nat_eq, nat_le, nat_lt, if◌then◌else◌, List, [], ◌∷◌, refl, arith, ◌⊎◌, inl, inr}
use Rattle.std.proofs.lemmas.Bool.{cases_Bool}
use Rattle.std.proofs.lemmas.Bool.Decides.{nat_tests}
use Rattle.rly_core.specs.declared.params.Params.{Params}
use Rattle.rly_codel.specs.LaneItems.{LaneItem, lane_bytes}
use Rattle.rly_codel.specs.Front.{is_over, front_of, is_armed, IsOverAt}
use Rattle.rly_codel.specs.Loop.{dodequeue}
use Rattle.rly_codel.specs.declared.state.CodelState.{CodelState}

-- the test of dodequeue, negated
pub over_or_below : (waited target maxpacket behind : ℕ) →
    (((nat_le target waited && nat_lt maxpacket behind) ≡ true) × ((nat_lt waited target || nat_le behind maxpacket) ≡ false))
    ⊎ (((nat_le target waited && nat_lt maxpacket behind) ≡ false) × ((nat_lt waited target || nat_le behind maxpacket) ≡ true))
over_or_below waited target maxpacket behind = grind (arith, nat_tests)

-- no item at the front is over
pub dodequeue-front_zero : (p : Params) (now : ℕ) (q : List LaneItem) (s : CodelState) → front_of p now q ≡ 0 →
    dodequeue p now q s ≡ record { ok_to_drop = false; state = record s { first_above_time = 0 } }
dodequeue-front_zero p now [] s h = refl
dodequeue-front_zero p now (item ∷ behind) s h =
    elim (over_or_below (now - item.stamp) p.target p.maxpacket (lane_bytes behind)) [
      | inl over ↦ absurd (let broken : suc (front_of p now behind) ≡ 0 = rw over.0 at h in omega arith)
      | inr below ↦ rw below.1 refl
    ]

-- if the front has an item, CoDel's state alone decides
pub dodequeue-front_suc : (p : Params) (now : ℕ) (q : List LaneItem) (s : CodelState) (n : ℕ) → front_of p now q ≡ suc n →
    dodequeue p now q s
    ≡ (if nat_eq s.first_above_time 0
    then (record { ok_to_drop = false; state = record s { first_above_time = now + p.interval } })
    else (record { ok_to_drop = nat_le s.first_above_time now; state = s }))
dodequeue-front_suc p now [] s n h = absurd (omega arith)
dodequeue-front_suc p now (item ∷ behind) s n h =
    elim (over_or_below (now - item.stamp) p.target p.maxpacket (lane_bytes behind)) [
      | inl over ↦ rw over.1 refl
      | inr below ↦ absurd (let broken : 0 ≡ suc n = rw below.0 at h in omega arith)
    ]

-- after the first item of a front comes the rest of the front
pub front_of-rest : (p : Params) (now : ℕ) (item : LaneItem) (behind : List LaneItem) (n : ℕ) →
    front_of p now (item ∷ behind) ≡ suc n → front_of p now behind ≡ n
front_of-rest p now item behind n h =
    elim (cases_Bool (is_over p now item behind)) [
      | inl over ↦ (let more : suc (front_of p now behind) ≡ suc n = rw over at h in omega arith)
      | inr below ↦ absurd (let broken : 0 ≡ suc n = rw below at h in omega arith)
    ]

-- armed: the front's item may be dropped, and the state is unchanged
pub dodequeue-armed : (p : Params) (now : ℕ) (q : List LaneItem) (s : CodelState) (n : ℕ) → is_armed now s ≡ true →
    front_of p now q ≡ suc n → dodequeue p now q s ≡ record { ok_to_drop = true; state = s }
dodequeue-armed p now q s n armed h =
    let tests : (nat_eq s.first_above_time 0 ≡ false) × (nat_le s.first_above_time now ≡ true) = grind (arith, nat_tests) in
    rw (dodequeue-front_suc p now q s n h, tests.0, tests.1) refl

-- not armed: no item may be dropped
pub dodequeue-unarmed : (p : Params) (now : ℕ) (q : List LaneItem) (s : CodelState) → is_armed now s ≡ false →
    dodequeue p now q s ≡ record {
      ok_to_drop = false;
      state = record s {
        first_above_time =
            if nat_eq (front_of p now q) 0 then 0
            else (if nat_eq s.first_above_time 0 then now + p.interval else s.first_above_time);
      };
    }
dodequeue-unarmed p now q s unarmed = by_front (front_of p now q) refl
  where
    by_front : (m : ℕ) → front_of p now q ≡ m →
        dodequeue p now q s ≡ record {
          ok_to_drop = false;
          state = record s {
            first_above_time =
                if nat_eq (front_of p now q) 0 then 0
                else (if nat_eq s.first_above_time 0 then now + p.interval else s.first_above_time);
          };
        }
    by_front zero h = rw (dodequeue-front_zero p now q s h, h) refl
    by_front (suc n) h =
        let some : nat_eq (suc n) 0 ≡ false = grind (arith, nat_tests) in
        elim (cases_Bool (nat_eq s.first_above_time 0)) [
          | inl none ↦ rw (dodequeue-front_suc p now q s n h, h, some, none) refl
          | inr later ↦
              (let early : nat_le s.first_above_time now ≡ false = grind (arith, nat_tests) in
              rw (dodequeue-front_suc p now q s n h, h, some, later, early) refl)
        ]

-- each item of the front is over
pub front_of-all_over : (p : Params) (now : ℕ) (q : List LaneItem) (i : ℕ) → i < front_of p now q → IsOverAt p now q i
front_of-all_over p now [] i h = absurd (omega arith)
front_of-all_over p now (item ∷ behind) zero h =
    elim (cases_Bool (is_over p now item behind)) [
      | inl over ↦ λ d. over
      | inr below ↦ absurd (let none : 0 < 0 = rw below at h in omega arith)
    ]
front_of-all_over p now (item ∷ behind) (suc i) h =
    elim (cases_Bool (is_over p now item behind)) [
      | inl over ↦
          (let more : suc i < suc (front_of p now behind) = rw over at h in
          let next : suc i + 1 ≡ suc (i + 1) = omega arith in
          λ d. rw next (front_of-all_over p now behind i (omega arith) d))
      | inr below ↦ absurd (let none : suc i < 0 = rw below at h in omega arith)
    ]

-- the item after the front isn't over
pub front_of-ends : (p : Params) (now : ℕ) (q : List LaneItem) (m : ℕ) → front_of p now q ≡ m → m < length q →
    IsOverAt p now q m → ⊥
front_of-ends p now [] m h there over = omega arith
front_of-ends p now (item ∷ behind) zero h there over =
    let here : is_over p now item behind ≡ true = over item in
    let broken : suc (front_of p now behind) ≡ 0 = rw here at h in
    omega arith
front_of-ends p now (item ∷ behind) (suc n) h there over =
    let next : suc n + 1 ≡ suc (n + 1) = omega arith in
    front_of-ends p now behind n (front_of-rest p now item behind n h) (omega arith) (λ d. rw next at (over d))
