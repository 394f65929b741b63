use Rattle.std.proofs.Common.{◌≡◌, drop, option_map, find}
use Rattle.rly_plan.specs.ContactPlan.{is_for, own_route}
use Rattle.rly_plan.proofs.plan.Plan.own_route.Given as goal

-- the route is the first from here on
abbrev pub invariant-loop-route : goal.invariant-loop-route
invariant-loop-route l = option_map (λ r. r.hop) (find (λ r. is_for l.destination r.destination) (drop l.route-index l.route-items)) ≡ own_route l.self l.destination
