use Rattle.std.proofs.Common.{◌≡◌, ◌++◌, string_bytes, take}
use Rattle.std.specs.List.{enumerate_from, flat_map}
use Rattle.rly_plan_changes.specs.PlanChanges.{route_change}
use Rattle.rly_plan_changes.proofs.route_changes.write_changed.Given as goal

abbrev pub invariant-loop-route : goal.invariant-loop-route
invariant-loop-route l =
    (l.number ≡ l.route-index)
    × (string_bytes l.text ≡ string_bytes l.initial.text ++ flat_map (route_change l.old) (enumerate_from 1 (take l.route-index l.new)))
