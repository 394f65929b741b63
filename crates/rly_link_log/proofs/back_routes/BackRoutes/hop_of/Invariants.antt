use Rattle.std.proofs.Common.{◌≡◌, ◌==◌, drop, option_map, find}
use Rattle.rly_link_log.specs.BackRoutes.{back_hop}
use Rattle.rly_link_log.proofs.back_routes.BackRoutes.hop_of.Given as goal

-- the route is the first from here on
abbrev pub invariant-loop-route : goal.invariant-loop-route
invariant-loop-route l = option_map (λ r. r.hop) (find (λ r. r.destination == l.destination) (drop l.route-index l.route-items)) ≡ back_hop l.self.routes.items l.destination
