use Rattle.std.proofs.Common.{arith}
use Rattle.rly_network.specs.Paths.{route_conflicts}
use Rattle.rly_network.proofs.Rows.{numbered_at}
use Rattle.rly_network.proofs.paths.check_routes.Goals as goal

pub loop-route-preserved : goal.loop-route-preserved
loop-route-preserved c = (
  omega arith,
  numbered_at (route_conflicts c.args.stations.now c.args.station.now) c.args.found.now.items c.loop-route.found.items c.check_route.new.found.items c.args.routes.now
      c.loop-route.route-index c.loop-route.number _ c.loop-route-test.true c.loop-route.invariant.0 c.loop-route.invariant.1 c.in_ok-check_route.ensures,
)
