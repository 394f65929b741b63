use Rattle.std.proofs.Common.{arith}
use Rattle.rly_plan_show.specs.PlanWarnings.{listen_of_peer}
use Rattle.rly_plan_show.proofs.Lines.{lines_written}
use Rattle.rly_plan_show.proofs.plan_warnings.add_peers.Goals as goal

pub loop-peer-preserved : goal.loop-peer-preserved
loop-peer-preserved c = (
  omega arith,
  lines_written listen_of_peer c.args.found.now.items c.loop-peer.found.items c.add_listen.new.found.items c.args.peers.now
      c.loop-peer.peer-index c.loop-peer.number c.peer-item.result c.loop-peer-test.true c.peer-item.is c.loop-peer.invariant.0 c.loop-peer.invariant.1 c.in_ok-add_listen.ensures,
)
