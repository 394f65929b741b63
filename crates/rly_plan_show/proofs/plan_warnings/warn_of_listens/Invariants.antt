use Rattle.std.proofs.Common.{◌≡◌, ◌++◌, drop}
use Rattle.rly_plan_show.specs.PlanWarnings.{same_listens}
use Rattle.rly_plan_show.proofs.plan_warnings.warn_of_listens.Given as goal

-- the warnings so far, before those of the remaining links
abbrev pub invariant-loop-index : goal.invariant-loop-index
invariant-loop-index l = l.warnings.items ++ same_listens (drop l.index l.listens) ≡ l.initial.warnings.items ++ same_listens l.listens
