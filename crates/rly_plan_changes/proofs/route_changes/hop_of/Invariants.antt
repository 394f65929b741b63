use Rattle.std.proofs.Common.{◌≡◌, drop, find, option_map}
use Rattle.rly_plan.specs.declared.route.Route.{Route}
use Rattle.rly_plan_changes.specs.PlanChanges.{same_destination}
use Rattle.rly_plan_changes.proofs.route_changes.hop_of.Given as goal

-- the route is the first from here on
abbrev pub invariant-loop-route : goal.invariant-loop-route
invariant-loop-route l =
    option_map (λ (r : Route). r.hop.0) (find (λ (r : Route). same_destination r.destination l.destination) (drop l.route-index l.routes))
    ≡ option_map (λ (r : Route). r.hop.0) (find (λ (r : Route). same_destination r.destination l.destination) l.routes)
