use Rattle.std.proofs.Common.{arith}
use Rattle.rly_plan_show.specs.PlanWarnings.{peer_warnings}
use Rattle.rly_plan_show.proofs.Lines.{lines_written}
use Rattle.rly_plan_show.proofs.plan_warnings.warn_of_peers.Goals as goal

pub loop-peer-preserved : goal.loop-peer-preserved
loop-peer-preserved c = (
  omega arith,
  lines_written (peer_warnings c.args.plan.now) c.args.warnings.now.items c.loop-peer.warnings.items c.warn_of_peer.new.warnings.items c.args.peers.now
      c.loop-peer.peer-index c.loop-peer.number c.peer-item.result c.loop-peer-test.true c.peer-item.is c.loop-peer.invariant.0 c.loop-peer.invariant.1 c.in_ok-warn_of_peer.ensures,
)
