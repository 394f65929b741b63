use Rattle.std.proofs.Common.{◌≡◌, ◌++◌, take}
use Rattle.std.specs.List.{enumerate_from, flat_map}
use Rattle.rly_network.specs.Paths.{route_conflicts}
use Rattle.rly_network.proofs.paths.check_routes.Given as goal

abbrev pub invariant-loop-route : goal.invariant-loop-route
invariant-loop-route l =
    (l.number ≡ l.route-index)
    × (l.found.items ≡ l.initial.found.items ++ flat_map (route_conflicts l.stations l.station) (enumerate_from 1 (take l.route-index l.routes)))
