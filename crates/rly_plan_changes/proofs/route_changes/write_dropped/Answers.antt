use Rattle.std.proofs.Common.{arith, string_bytes}
use Rattle.rly_plan_changes.specs.PlanChanges.{dropped_route}
use Rattle.rly_plan_changes.proofs.Rows.{numbered_at}
use Rattle.rly_plan_changes.proofs.route_changes.write_dropped.Goals as goal

pub loop-route-preserved : goal.loop-route-preserved
loop-route-preserved c = (
  omega arith,
  numbered_at (dropped_route c.args.new.now) (string_bytes c.args.text.now) (string_bytes c.loop-route.text) (string_bytes c.write_if_dropped.new.text) c.args.old.now
      c.loop-route.route-index c.loop-route.number _ c.loop-route-test.true c.loop-route.invariant.0 c.loop-route.invariant.1 c.in_ok-write_if_dropped.ensures,
)
