use Rattle.std.proofs.Common.{◌≡◌, drop}
use Rattle.std.specs.List.{list_any}
use Rattle.rly_plan.specs.ContactPlan.{is_for}
use Rattle.rly_plan.specs.declared.route.Route.{Route}
use Rattle.rly_network.specs.Stations.{has_route}
use Rattle.rly_network.proofs.stations.has_route.Given as goal

-- whether a route from here on is the destination's
abbrev pub invariant-loop-route : goal.invariant-loop-route
invariant-loop-route l = list_any (λ (r : Route). is_for l.destination r.destination) (drop l.route-index l.route-items) ≡ has_route l.plan l.destination
