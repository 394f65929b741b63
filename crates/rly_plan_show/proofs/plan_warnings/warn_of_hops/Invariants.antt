use Rattle.std.proofs.Common.{◌≡◌, ◌++◌, take}
use Rattle.std.specs.List.{enumerate_from, flat_map}
use Rattle.rly_plan_show.specs.PlanWarnings.{hop_warnings}
use Rattle.rly_plan_show.proofs.plan_warnings.warn_of_hops.Given as goal

abbrev pub invariant-loop-hop : goal.invariant-loop-hop
invariant-loop-hop l =
    (l.number ≡ l.hop-index)
    × (l.warnings.items ≡ l.initial.warnings.items ++ flat_map (hop_warnings l.plan l.moment) (enumerate_from 1 (take l.hop-index l.hops)))
