use Rattle.std.proofs.Common.{arith, string_bytes}
use Rattle.rly_plan_changes.specs.PlanChanges.{hop_changes}
use Rattle.rly_plan_changes.proofs.Rows.{numbered_found}
use Rattle.rly_plan_changes.proofs.plan_changes.write_hops.Goals as goal

pub loop-hop-preserved : goal.loop-hop-preserved
loop-hop-preserved c = (
  omega arith,
  numbered_found (hop_changes c.args.new.now) (string_bytes c.args.text.now) (string_bytes c.loop-hop.text) (string_bytes c.write_hop.new.text) c.args.old.now
      c.loop-hop.hop-index c.loop-hop.number c.hop-item.result c.loop-hop-test.true c.hop-item.is c.loop-hop.invariant.0 c.loop-hop.invariant.1 c.in_ok-write_hop.ensures,
)
