use Rattle.std.proofs.Common.{arith}
use Rattle.rly_network.specs.Paths.{peer_conflicts}
use Rattle.rly_network.proofs.Rows.{numbered_found}
use Rattle.rly_network.proofs.paths.check_peers.Goals as goal

pub loop-peer-preserved : goal.loop-peer-preserved
loop-peer-preserved c = (
  omega arith,
  numbered_found (peer_conflicts c.args.stations.now c.args.station.now) c.args.found.now.items c.loop-peer.found.items c.check_peer.new.found.items c.args.peers.now
      c.loop-peer.peer-index c.loop-peer.number c.peer-item.result c.loop-peer-test.true c.peer-item.is c.loop-peer.invariant.0 c.loop-peer.invariant.1 c.in_ok-check_peer.ensures,
)
