use Rattle.std.proofs.Common.{arith}
use Rattle.rly_plan_show.specs.PlanWarnings.{listen_of_hop}
use Rattle.rly_plan_show.proofs.Lines.{lines_written}
use Rattle.rly_plan_show.proofs.plan_warnings.add_hops.Goals as goal

pub loop-hop-preserved : goal.loop-hop-preserved
loop-hop-preserved c = (
  omega arith,
  lines_written listen_of_hop c.args.found.now.items c.loop-hop.found.items c.add_listen.new.found.items c.args.hops.now
      c.loop-hop.hop-index c.loop-hop.number c.hop-item.result c.loop-hop-test.true c.hop-item.is c.loop-hop.invariant.0 c.loop-hop.invariant.1 c.in_ok-add_listen.ensures,
)
