use Rattle.std.proofs.Common.{◌≡◌, ◌++◌, string_bytes}
use Rattle.std.specs.List.{flat_map, range_with_len}
use Rattle.rly_plan_changes.specs.PlanChanges.{id_at}
use Rattle.rly_plan_changes.proofs.plan_changes.write_row.Given as goal

abbrev pub invariant-loop-index : goal.invariant-loop-index
invariant-loop-index l = string_bytes l.text ≡ string_bytes l.initial.text ++ flat_map (id_at l.row l.old l.new) (range_with_len 1 l.index)
