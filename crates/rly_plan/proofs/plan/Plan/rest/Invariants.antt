use Rattle.std.proofs.Common.{◌≡◌, drop, option_map, find}
use Rattle.rly_plan.specs.ContactPlan.{is_rest, rest}
use Rattle.rly_plan.proofs.plan.Plan.rest.Given as goal

-- the rest is the first from here on
abbrev pub invariant-loop-route : goal.invariant-loop-route
invariant-loop-route l = option_map (λ r. r.hop) (find (λ r. is_rest r.destination) (drop l.route-index l.route-items)) ≡ rest l.self
