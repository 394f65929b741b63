use Rattle.std.proofs.Common.{◌≡◌, ◌++◌, string_bytes, take}
use Rattle.std.specs.List.{enumerate_from, flat_map}
use Rattle.rly_plan_changes.specs.PlanChanges.{hop_changes}
use Rattle.rly_plan_changes.proofs.plan_changes.write_hops.Given as goal

abbrev pub invariant-loop-hop : goal.invariant-loop-hop
invariant-loop-hop l =
    (l.number ≡ l.hop-index)
    × (string_bytes l.text ≡ string_bytes l.initial.text ++ flat_map (hop_changes l.new) (enumerate_from 1 (take l.hop-index l.old)))
