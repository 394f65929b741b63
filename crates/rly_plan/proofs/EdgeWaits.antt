-- A sleeper wakes no later than its link changes.
use Rattle.std.proofs.Common.{◌≡◌, ℕ, ◌+◌, ◌-◌, ◌<◌, ◌≤◌, Bool, Option, Some, None, arith, refl}
use Rattle.std.proofs.lemmas.Bool.Decides.{nat_tests}
use Rattle.std.specs.Prelude.{is_some, option_map}
use Rattle.rly_core.specs.declared.ids.HopId.{HopId}
use Rattle.rly_plan.specs.Changes.{IsNextChange}
use Rattle.rly_plan.specs.ContactPlan.{ContactPlan, edge_wait, is_open, next_change, sleep_of}
use Rattle.rly_plan.specs.Sound.{IsSoundPlan}
use Rattle.rly_plan.proofs.ChangeLaws.{next_change_is}

slept : (left wait : ℕ) → 0 < left → sleep_of left ≡ wait → (0 < wait) × (wait ≤ left)
slept left wait some is = grind (arith, nat_tests)

kept : (f : ℕ → Bool) (now wait : ℕ) (o : Option ℕ) → IsNextChange f now o → option_map (λ (change : ℕ). sleep_of (change - now)) o ≡ Some wait
    → (0 < wait) × ((u : ℕ) → now ≤ u → u < now + wait → f u ≡ f now)
kept f now wait None is sleeps = absurd (cc)
kept f now wait (Some change) is sleeps =
    let asleep : sleep_of (change - now) ≡ wait = cc in
    let some : 0 < change - now = omega (arith, is.0) in
    let bound = slept (change - now) wait some asleep in
    (bound.0, λ u from below. is.2 u from (omega (arith, bound.1)))

pub edge_wait-keeps : (plan : ContactPlan) (hop : HopId) (now wait : ℕ) → IsSoundPlan plan → edge_wait plan hop now ≡ Some wait
    → (0 < wait) × ((u : ℕ) → now ≤ u → u < now + wait → is_open plan hop u ≡ is_open plan hop now)
edge_wait-keeps plan hop now wait sound sleeps =
    kept (is_open plan hop) now wait (next_change plan hop now) (next_change_is plan hop now sound) sleeps

mapped : {A B : Type 0} (f : A → B) (o : Option A) → is_some (option_map f o) ≡ is_some o
mapped f None = refl
mapped f (Some x) = refl

pub edge_wait-none : (plan : ContactPlan) (hop : HopId) (now : ℕ) → is_some (edge_wait plan hop now) ≡ is_some (next_change plan hop now)
edge_wait-none plan hop now = mapped (λ (change : ℕ). sleep_of (change - now)) (next_change plan hop now)
