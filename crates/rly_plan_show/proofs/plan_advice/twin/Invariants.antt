use Rattle.std.proofs.Common.{◌≡◌, ◌+◌, drop}
use Rattle.toml.specs.View.{items_view}
use Rattle.rly_plan_show.specs.PlanAdvice.{twin}
use Rattle.rly_plan_show.proofs.plan_advice.twin.Given as goal

abbrev pub invariant-loop-index : goal.invariant-loop-index
invariant-loop-index l = twin l.key l.wanted l.after (l.index + 1) (items_view (drop l.index l.tables.items)) ≡ twin l.key l.wanted l.after 1 (items_view l.tables.items)
