use Rattle.std.proofs.Common.{◌≡◌, take}
use Rattle.rly_link_log.specs.BackRoutes.{routes_to}
use Rattle.rly_link_log.proofs.back_routes.routes_to.Given as goal

-- the routes so far that lead there
abbrev pub invariant-loop-route : goal.invariant-loop-route
invariant-loop-route l = l.found.items ≡ routes_to l.plan l.station (take l.route-index l.routes)
