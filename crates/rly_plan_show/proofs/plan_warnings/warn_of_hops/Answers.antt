use Rattle.std.proofs.Common.{arith}
use Rattle.rly_plan_show.specs.PlanWarnings.{hop_warnings}
use Rattle.rly_plan_show.proofs.Lines.{lines_written}
use Rattle.rly_plan_show.proofs.plan_warnings.warn_of_hops.Goals as goal

pub loop-hop-preserved : goal.loop-hop-preserved
loop-hop-preserved c = (
  omega arith,
  lines_written (hop_warnings c.args.plan.now c.args.moment) c.args.warnings.now.items c.loop-hop.warnings.items c.warn_of_hop.new.warnings.items c.args.hops.now
      c.loop-hop.hop-index c.loop-hop.number c.hop-item.result c.loop-hop-test.true c.hop-item.is c.loop-hop.invariant.0 c.loop-hop.invariant.1 c.in_ok-warn_of_hop.ensures,
)
