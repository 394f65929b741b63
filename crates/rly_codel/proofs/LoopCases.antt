-- The RFC's loop has the same result as the cases.
use Rattle.std.proofs.Common.{◌≡◌, ℕ, zero, suc, ◌+◌, ◌-◌, ◌<◌, Bool, true, false, ◌&&◌, nat_eq, nat_le, nat_lt, List, [], ◌∷◌, refl, sym, ap, arith, add-zero, inl, inr}
use Rattle.std.proofs.lemmas.Bool.{cases_Bool, and_left, and_right, and_from}
use Rattle.std.proofs.lemmas.Bool.Decides.{nat_tests}
use Rattle.rly_core.specs.declared.params.Params.{Params}
use Rattle.rly_law.specs.ControlLaw.{step_of}
use Rattle.rly_codel.specs.LaneItems.{LaneItem}
use Rattle.rly_codel.specs.Front.{front_of, is_armed}
use Rattle.rly_codel.specs.DropTimes.{drop_time, least_below, drops_due}
use Rattle.rly_codel.specs.Cases.{DequeueOutcome, dequeue_of, unarmed_outcome, below_target, phase_begins, phase_goes_on}
use Rattle.rly_codel.specs.Loop.{drop_turn, drop_loop, enter_dropping, dequeue_by_loop}
use Rattle.rly_codel.specs.declared.state.CodelState.{CodelState}
use Rattle.rly_codel.proofs.Fronts.{dodequeue-front_zero, dodequeue-armed, dodequeue-unarmed, front_of-rest}

-- the loop makes no turn if no phase is on
pub drop_loop-off : (p : Params) (now : ℕ) (q : List LaneItem) (s : CodelState) → s.dropping ≡ false →
    drop_loop p now q s ≡ record { dropped = 0; state = s }
drop_loop-off p now [] s off = refl
drop_loop-off p now (item ∷ behind) s off = rw (and_right (nat_le s.drop_next now) s.dropping off) refl

-- the drop times after the first are those of the next count from the next drop time on
drop_time-shift : (step : ℕ → ℕ) (drop_next count j : ℕ) →
    drop_time step drop_next count (suc j) ≡ drop_time step (drop_next + step (count + 1)) (count + 1) j
drop_time-shift step drop_next count zero = refl
drop_time-shift step drop_next count (suc j) =
    let counts : count + suc (suc j) ≡ count + 1 + suc j = omega arith in
    rw (drop_time-shift step drop_next count j, counts) refl

-- two equal tests have the same least number
least_below-same : (f g : ℕ → Bool) (bound : ℕ) → ((j : ℕ) → f j ≡ g j) → least_below f bound ≡ least_below g bound
least_below-same f g zero same = refl
least_below-same f g (suc bound) same =
    rw (same 0, least_below-same (λ j. f (suc j)) (λ j. g (suc j)) bound (λ j. same (suc j))) refl

-- one turn, if the front continues after the dropped item: the count grows, and so does the next drop time
drop_turn-goes_on : (p : Params) (now : ℕ) (behind : List LaneItem) (s : CodelState) (n : ℕ) → is_armed now s ≡ true →
    front_of p now behind ≡ suc n →
    drop_turn p now behind s ≡ record s { drop_next = s.drop_next + step_of p.interval (s.count + 1); count = s.count + 1 }
drop_turn-goes_on p now behind s n armed h =
    rw (dodequeue-armed p now behind (record s { count = s.count + 1 }) n armed h) refl

-- one turn, if the front ends with the dropped item: the phase ends
drop_turn-ends : (p : Params) (now : ℕ) (behind : List LaneItem) (s : CodelState) → front_of p now behind ≡ 0 →
    drop_turn p now behind s ≡ record s { first_above_time = 0; count = s.count + 1; dropping = false }
drop_turn-ends p now behind s h = rw (dodequeue-front_zero p now behind (record s { count = s.count + 1 }) h) refl

-- a phase whose next drop is due is that drop, followed by the phase from the next drop time on
phase_goes_on-due : (p : Params) (now m : ℕ) (s : CodelState) → nat_le s.drop_next now ≡ true → 0 < m →
    phase_goes_on p now (suc m) s
    ≡ (let rest : DequeueOutcome =
    phase_goes_on p now m (record s { drop_next = s.drop_next + step_of p.interval (s.count + 1); count = s.count + 1 }) in
    record { dropped = suc rest.dropped; state = rest.state })
phase_goes_on-due p now m s due some =
    let step : ℕ → ℕ = step_of p.interval in
    let next : ℕ = s.drop_next + step (s.count + 1) in
    let k : ℕ = drops_due step now next (s.count + 1) m in
    let not_early : nat_lt now s.drop_next ≡ false = grind (arith, nat_tests) in
    let same : least_below (λ j. nat_lt now (drop_time step s.drop_next s.count (suc j))) m ≡ k =
    least_below-same _ _ m (λ j. ap (λ t. nat_lt now t) (drop_time-shift step s.drop_next s.count j)) in
    elim (cases_Bool (nat_lt k m)) [
      | inl more ↦
          (let more' : nat_lt (suc k) (suc m) ≡ true = grind (arith, nat_tests) in
          let counts : s.count + suc k ≡ s.count + 1 + k = omega arith in
          rw (not_early, same, more', more, drop_time-shift step s.drop_next s.count k, counts) refl)
      | inr all ↦
          (let all' : nat_lt (suc k) (suc m) ≡ false = grind (arith, nat_tests) in
          let counts : s.count + suc m ≡ s.count + 1 + m = omega arith in
          let last : suc m - 1 ≡ suc (m - 1) = omega arith in
          rw (not_early, same, all', all, last, drop_time-shift step s.drop_next s.count (m - 1), counts) refl)
    ]

-- the loop, armed and in a phase, over a front of at least one item
pub drop_loop-phase : (p : Params) (now : ℕ) (q : List LaneItem) (s : CodelState) (n : ℕ) → is_armed now s ≡ true →
    s.dropping ≡ true → front_of p now q ≡ suc n → drop_loop p now q s ≡ phase_goes_on p now (suc n) s
drop_loop-phase p now [] s n armed on h = absurd (omega arith)
drop_loop-phase p now (item ∷ behind) s n armed on h =
    let again = λ (t : CodelState) (n : ℕ) (armed : is_armed now t ≡ true) (on : t.dropping ≡ true) (h : front_of p now behind ≡ suc n).
    drop_loop-phase p now behind t n armed on h in
    elim (cases_Bool (nat_le s.drop_next now)) [
      | inl due ↦ dropped_one n (front_of-rest p now item behind n h) due again
      | inr early ↦
          (let stays : (nat_le s.drop_next now && s.dropping) ≡ false = and_left _ _ early in
          let late : nat_lt now s.drop_next ≡ true = grind (arith, nat_tests) in
          let some : nat_lt 0 (suc n) ≡ true = grind (arith, nat_tests) in
          rw (stays, late, some, add-zero s.count) refl)
    ]
  where
    dropped_one : (n : ℕ) → front_of p now behind ≡ n → nat_le s.drop_next now ≡ true →
        ((t : CodelState) (n : ℕ) → is_armed now t ≡ true → t.dropping ≡ true → front_of p now behind ≡ suc n →
        drop_loop p now behind t ≡ phase_goes_on p now (suc n) t) →
        drop_loop p now (item ∷ behind) s ≡ phase_goes_on p now (suc n) s
    dropped_one zero rest due again =
        let turns : (nat_le s.drop_next now && s.dropping) ≡ true = and_from _ _ due on in
        let not_early : nat_lt now s.drop_next ≡ false = grind (arith, nat_tests) in
        let ended : CodelState = record s { first_above_time = 0; count = s.count + 1; dropping = false } in
        rw (turns, drop_turn-ends p now behind s rest, drop_loop-off p now behind ended refl, not_early) refl
    dropped_one (suc n) rest due again =
        let turns : (nat_le s.drop_next now && s.dropping) ≡ true = and_from _ _ due on in
        let next : CodelState =
        record s { drop_next = s.drop_next + step_of p.interval (s.count + 1); count = s.count + 1 } in
        rw (turns, drop_turn-goes_on p now behind s n armed rest, again next n armed on rest)
        (sym (phase_goes_on-due p now (suc n) s due (omega arith)))

-- the branch that enters the dropping state, armed, after its first drop
enter_dropping-armed : (p : Params) (now : ℕ) (behind : List LaneItem) (s : CodelState) (n : ℕ) → is_armed now s ≡ true →
    front_of p now behind ≡ n → enter_dropping p now behind s ≡ (phase_begins p now (suc n) s).state
enter_dropping-armed p now behind s zero armed h = rw (dodequeue-front_zero p now behind s h) refl
enter_dropping-armed p now behind s (suc n) armed h =
    let more : nat_eq (suc (suc n)) 1 ≡ false = grind (arith, nat_tests) in
    rw (dodequeue-armed p now behind s n armed h, more) refl

-- not armed
by_loop-unarmed : (p : Params) (now : ℕ) (q : List LaneItem) (s : CodelState) → is_armed now s ≡ false →
    dequeue_by_loop p now q s ≡ dequeue_of p now q s
unfolding dequeue_by_loop dequeue_of
by_loop-unarmed p now q s idle =
    elim (cases_Bool s.dropping) [
      | inl on ↦
          rw (dodequeue-unarmed p now q s idle, idle, on)
          (drop_loop-off p now q (unarmed_outcome p now (front_of p now q) s).state refl)
      | inr off ↦ rw (dodequeue-unarmed p now q s idle, idle, off) refl
    ]

-- armed
by_loop-armed : (p : Params) (now : ℕ) (q : List LaneItem) (s : CodelState) (m : ℕ) → is_armed now s ≡ true →
    front_of p now q ≡ m → dequeue_by_loop p now q s ≡ dequeue_of p now q s
unfolding dequeue_by_loop dequeue_of
by_loop-armed p now q s zero armed h =
    elim (cases_Bool s.dropping) [
      | inl on ↦
          rw (dodequeue-front_zero p now q s h, armed, h, on) (drop_loop-off p now q (below_target s).state refl)
      | inr off ↦ rw (dodequeue-front_zero p now q s h, armed, h, off) refl
    ]
by_loop-armed p now [] s (suc n) armed h = absurd (omega arith)
by_loop-armed p now (item ∷ behind) s (suc n) armed h =
    let some : nat_eq (suc n) 0 ≡ false = grind (arith, nat_tests) in
    let rest : front_of p now behind ≡ n = front_of-rest p now item behind n h in
    elim (cases_Bool s.dropping) [
      | inl on ↦
          rw (dodequeue-armed p now (item ∷ behind) s n armed h, armed, h, some, on)
          (drop_loop-phase p now (item ∷ behind) (record s { dropping = true }) n armed refl h)
      | inr off ↦
          rw (dodequeue-armed p now (item ∷ behind) s n armed h, armed, h, some, off)
          (ap (λ t. record { dropped = 1; state = t }) (enter_dropping-armed p now behind (record s { dropping = false }) n armed rest))
    ]

-- the RFC's loop has the same result as the cases
pub dequeue_by_loop-cases : (p : Params) (now : ℕ) (q : List LaneItem) (s : CodelState) →
    dequeue_by_loop p now q s ≡ dequeue_of p now q s
dequeue_by_loop-cases p now q s =
    elim (cases_Bool (is_armed now s)) [
      | inl armed ↦ by_loop-armed p now q s (front_of p now q) armed refl
      | inr idle ↦ by_loop-unarmed p now q s idle
    ]
