use Rattle.std.proofs.Common.{◌≡◌, ◌+◌, drop}
use Rattle.rly_plan_changes.specs.PlanIds.{first_other}
use Rattle.rly_plan_changes.proofs.plan_ids.first_other.Given as goal

-- the first one from here on
abbrev pub invariant-loop-index : goal.invariant-loop-index
invariant-loop-index l = first_other l.row (l.index + 1) (drop l.index l.old) (drop l.index l.new) ≡ first_other l.row 1 l.old l.new
