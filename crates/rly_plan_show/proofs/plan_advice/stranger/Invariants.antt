use Rattle.std.proofs.Common.{◌≡◌}
use Rattle.toml.specs.View.{members_view}
use Rattle.rly_plan_show.specs.PlanAdvice.{stranger}
use Rattle.rly_plan_show.proofs.plan_advice.stranger.Given as goal

abbrev pub invariant-loop-key : goal.invariant-loop-key
invariant-loop-key l = stranger l.row l.folder (members_view l.key-iterator) ≡ stranger l.row l.folder (members_view l.table.entries)
