-- No line follows before the wait is over.
use Rattle.std.proofs.Common.{◌≡◌, ℕ, ◌+◌, ◌-◌, ◌*◌, ◌<◌, ◌≤◌, Bool, true, false, not, Option, Some, None, option_map, refl, ◌∙◌, ap, sym, arith, inl, inr}
use Rattle.std.proofs.lemmas.Bool.{cases_lt}
use Rattle.std.proofs.lemmas.Bool.Decides.{nat_tests}
use Rattle.rly_core.specs.declared.ids.HopId.{HopId}
use Rattle.rly_plan.specs.Changes.{IsNextChange}
use Rattle.rly_plan.specs.ContactPlan.{ContactPlan, is_open, lead, next_change}
use Rattle.rly_plan.specs.Sound.{IsSoundPlan}
use Rattle.rly_plan.proofs.ChangeLaws.{next_change_is}
use Rattle.rly_daemon_events.specs.declared.hop_event.HopEvent.{HopEvent}
use Rattle.rly_daemon_events.specs.declared.hop_event.HopEvent.TheVariants.{Opens, Open, Busy, Idle, Closed}
use Rattle.rly_daemon_events.specs.HopEvents.{announced, look_at, next_event, next_wait, wait_before}
use Rattle.rly_daemon_events.proofs.LineLaws.{far, not_soon, seen}

-- ---- the next change stays the same until it comes

other : (a b : Bool) → a ≡ b → a ≡ not b → ⊥
other a true same differs = absurd (cc)
other a false same differs = absurd (cc)

same_change : (f : ℕ → Bool) (now u c : ℕ) (o : Option ℕ) → IsNextChange f now (Some c) → now ≤ u → u < c → IsNextChange f u o → o ≡ Some c
same_change f now u c None first from before later =
    absurd (other (f c) (f u) (later c (omega arith)) (first.1 ∙ ap not (sym (first.2 u from before))))
same_change f now u c (Some d) first from before later =
    elim (cases_lt c d) [
      | inl sooner ↦ absurd (other (f c) (f u) (later.2 c (omega arith) sooner) (first.1 ∙ ap not (sym (first.2 u from before))))
      | inr past ↦ elim (cases_lt d c) [
        | inl early ↦ absurd (other (f d) (f u) (first.2 d (omega (arith, later.0)) early ∙ sym (first.2 u from before)) later.1)
        | inr late ↦ let same : d ≡ c = omega (arith, past, late) in ap Some same
      ]
    ]

no_change : (f : ℕ → Bool) (now u : ℕ) (o : Option ℕ) → IsNextChange f now None → now ≤ u → IsNextChange f u o → o ≡ None
no_change f now u None first from later = refl
no_change f now u (Some d) first from later =
    absurd (other (f d) (f u) (first d (omega (arith, later.0)) ∙ sym (first u from)) later.1)

-- ---- the wait

abbrev left_at : Option ℕ → ℕ → Option ℕ
left_at change moment = option_map (λ (c : ℕ). c - moment) change

bounded : (last : Option HopEvent) (opened resting : Bool) (left lead : ℕ) → 0 < left
    → (0 < wait_before last (seen opened resting (Some left) lead) left) × (wait_before last (seen opened resting (Some left) lead) left ≤ left)
bounded None opened resting left lead some = (some, omega arith)
bounded (Some Open) opened resting left lead some = (some, omega arith)
bounded (Some Busy) opened resting left lead some = (some, omega arith)
bounded (Some Idle) opened resting left lead some = (some, omega arith)
bounded (Some (Opens s)) opened resting left lead some = (some, omega arith)
bounded (Some Closed) true resting left lead some = (some, omega arith)
bounded (Some Closed) false resting left lead some = grind (arith, nat_tests)

-- of a link that opens before the lead, the lead begins after the wait
still_far : (resting : Bool) (now u c lead : ℕ) → now < c → now ≤ u → announced lead (c - now) ≡ None
    → u < now + wait_before (Some Closed) (seen false resting (Some (c - now)) lead) (c - now) → announced lead (c - u) ≡ None
still_far resting now u c lead ahead from none before =
    let past : lead * 1000000 < c - now = not_soon lead (c - now) none (omega arith) in
    let wait : wait_before (Some Closed) (seen false resting (Some (c - now)) lead) (c - now) ≡ c - now - lead * 1000000 = grind (arith, nat_tests) in
    far lead (c - u) (omega (arith, past, rw wait at before))

none_later : (last : Option HopEvent) (opened resting : Bool) (now u c lead : ℕ) → now < c → now ≤ u
    → next_event last (seen opened resting (Some (c - now)) lead) ≡ None
    → u < now + wait_before last (seen opened resting (Some (c - now)) lead) (c - now)
    → next_event last (seen opened resting (Some (c - u)) lead) ≡ None
none_later None true resting now u c lead ahead from none before = none
none_later None false resting now u c lead ahead from none before = none
none_later (Some Open) true resting now u c lead ahead from none before = none
none_later (Some Open) false resting now u c lead ahead from none before = none
none_later (Some Busy) true resting now u c lead ahead from none before = none
none_later (Some Busy) false resting now u c lead ahead from none before = none
none_later (Some Idle) true resting now u c lead ahead from none before = none
none_later (Some Idle) false resting now u c lead ahead from none before = none
none_later (Some (Opens s)) true resting now u c lead ahead from none before = none
none_later (Some (Opens s)) false resting now u c lead ahead from none before = none
none_later (Some Closed) true resting now u c lead ahead from none before = none
none_later (Some Closed) false resting now u c lead ahead from none before = still_far resting now u c lead ahead from none before

pub record Waits (f : ℕ → Bool) (next : ℕ → Option ℕ) (resting : Bool) (lead now wait : ℕ) (last : Option HopEvent) : Type 0 where
  pub some : 0 < wait
  pub none : (u : ℕ) → now ≤ u → u < now + wait → next_event last (seen (f u) resting (left_at (next u) u) lead) ≡ None

waits_from : (f : ℕ → Bool) (next : ℕ → Option ℕ) (resting : Bool) (lead now wait : ℕ) (last : Option HopEvent) (change : Option ℕ)
    → ((u : ℕ) → IsNextChange f u (next u)) → next now ≡ change → IsNextChange f now change
    → next_event last (seen (f now) resting (left_at change now) lead) ≡ None
    → next_wait last (seen (f now) resting (left_at change now) lead) ≡ Some wait → Waits f next resting lead now wait last
waits_from f next resting lead now wait last None each is first none waits = absurd (cc)
waits_from f next resting lead now wait last (Some c) each is first none waits =
    let same : wait_before last (seen (f now) resting (Some (c - now)) lead) (c - now) ≡ wait = cc in
    let bound = bounded last (f now) resting (c - now) lead (omega (arith, first.0)) in
    record {
      some = rw same at bound.0;
      none = λ u from before.
          let inside : u < c = omega (arith, before, rw same at bound.1, first.0) in
          let state : f u ≡ f now = first.2 u from inside in
          let still : next u ≡ Some c = same_change f now u c (next u) first from inside (each u) in
          rw (state, still) (none_later last (f now) resting now u c lead first.0 from none (rw (← same) at before));
    }

pub waits_are : (plan : ContactPlan) (hop : HopId) (now wait : ℕ) (resting : Bool) (last : Option HopEvent) → IsSoundPlan plan
    → next_event last (look_at plan hop now resting) ≡ None → next_wait last (look_at plan hop now resting) ≡ Some wait
    → (0 < wait) × ((u : ℕ) → now ≤ u → u < now + wait → next_event last (look_at plan hop u resting) ≡ None)
waits_are plan hop now wait resting last sound none waits =
    let found = waits_from (is_open plan hop) (next_change plan hop) resting (lead plan hop) now wait last (next_change plan hop now)
    (λ u. next_change_is plan hop u sound) refl (next_change_is plan hop now sound) none waits in
    (found.some, found.none)

never_from : (f : ℕ → Bool) (next : ℕ → Option ℕ) (resting : Bool) (lead now : ℕ) (last : Option HopEvent) (change : Option ℕ)
    → ((u : ℕ) → IsNextChange f u (next u)) → next now ≡ change → IsNextChange f now change
    → next_event last (seen (f now) resting (left_at change now) lead) ≡ None
    → next_wait last (seen (f now) resting (left_at change now) lead) ≡ None
    → (u : ℕ) → now ≤ u → next_event last (seen (f u) resting (left_at (next u) u) lead) ≡ None
never_from f next resting lead now last (Some c) each is first none waits u from = absurd (cc)
never_from f next resting lead now last None each is first none waits u from =
    let state : f u ≡ f now = first u from in
    let still : next u ≡ None = no_change f now u (next u) first from (each u) in
    rw (state, still) none

pub waits_forever : (plan : ContactPlan) (hop : HopId) (now : ℕ) (resting : Bool) (last : Option HopEvent) → IsSoundPlan plan
    → next_event last (look_at plan hop now resting) ≡ None → next_wait last (look_at plan hop now resting) ≡ None
    → (u : ℕ) → now ≤ u → next_event last (look_at plan hop u resting) ≡ None
waits_forever plan hop now resting last sound none waits =
    never_from (is_open plan hop) (next_change plan hop) resting (lead plan hop) now last (next_change plan hop now)
    (λ u. next_change_is plan hop u sound) refl (next_change_is plan hop now sound) none waits
