use Rattle.std.proofs.Common.{arith, string_bytes}
use Rattle.rly_plan_show.specs.PlanText.{peer_line}
use Rattle.rly_plan_show.proofs.Lines.{lines_written}
use Rattle.rly_plan_show.proofs.plan_text.write_peers.Goals as goal

pub loop-peer-preserved : goal.loop-peer-preserved
loop-peer-preserved c = (
  omega arith,
  lines_written peer_line (string_bytes c.args.text.now) (string_bytes c.loop-peer.text) (string_bytes c.write_peer.new.text) c.args.peers.now
      c.loop-peer.peer-index c.loop-peer.number c.peer-item.result c.loop-peer-test.true c.peer-item.is c.loop-peer.invariant.0 c.loop-peer.invariant.1 c.in_ok-write_peer.ensures,
)
