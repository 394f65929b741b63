use Rattle.std.proofs.Common.{arith, string_bytes}
use Rattle.rly_plan_changes.specs.PlanChanges.{peer_changes}
use Rattle.rly_plan_changes.proofs.Rows.{numbered_found}
use Rattle.rly_plan_changes.proofs.plan_changes.write_peers.Goals as goal

pub loop-peer-preserved : goal.loop-peer-preserved
loop-peer-preserved c = (
  omega arith,
  numbered_found (peer_changes c.args.new.now) (string_bytes c.args.text.now) (string_bytes c.loop-peer.text) (string_bytes c.write_peer.new.text) c.args.old.now
      c.loop-peer.peer-index c.loop-peer.number c.peer-item.result c.loop-peer-test.true c.peer-item.is c.loop-peer.invariant.0 c.loop-peer.invariant.1 c.in_ok-write_peer.ensures,
)
