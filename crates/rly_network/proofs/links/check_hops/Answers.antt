use Rattle.std.proofs.Common.{arith}
use Rattle.rly_network.specs.Links.{hop_conflicts}
use Rattle.rly_network.proofs.Rows.{numbered_found}
use Rattle.rly_network.proofs.links.check_hops.Goals as goal

pub loop-hop-preserved : goal.loop-hop-preserved
loop-hop-preserved c = (
  omega arith,
  numbered_found (hop_conflicts c.args.stations.now c.args.station.now) c.args.found.now.items c.loop-hop.found.items c.check_hop.new.found.items c.args.hops.now
      c.loop-hop.hop-index c.loop-hop.number c.hop-item.result c.loop-hop-test.true c.hop-item.is c.loop-hop.invariant.0 c.loop-hop.invariant.1 c.in_ok-check_hop.ensures,
)
