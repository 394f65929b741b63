use Rattle.std.proofs.Common.{arith, string_bytes}
use Rattle.rly_plan_changes.specs.PlanChanges.{route_change}
use Rattle.rly_plan_changes.proofs.Rows.{numbered_at}
use Rattle.rly_plan_changes.proofs.route_changes.write_changed.Goals as goal

pub loop-route-preserved : goal.loop-route-preserved
loop-route-preserved c = (
  omega arith,
  numbered_at (route_change c.args.old.now) (string_bytes c.args.text.now) (string_bytes c.loop-route.text) (string_bytes c.write_if_changed.new.text) c.args.new.now
      c.loop-route.route-index c.loop-route.number _ c.loop-route-test.true c.loop-route.invariant.0 c.loop-route.invariant.1 c.in_ok-write_if_changed.ensures,
)
