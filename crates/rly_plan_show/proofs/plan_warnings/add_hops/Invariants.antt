use Rattle.std.proofs.Common.{◌≡◌, ◌++◌, take}
use Rattle.std.specs.List.{enumerate_from, flat_map}
use Rattle.rly_plan_show.specs.PlanWarnings.{listen_of_hop}
use Rattle.rly_plan_show.proofs.plan_warnings.add_hops.Given as goal

abbrev pub invariant-loop-hop : goal.invariant-loop-hop
invariant-loop-hop l =
    (l.number ≡ l.hop-index)
    × (l.found.items ≡ l.initial.found.items ++ flat_map listen_of_hop (enumerate_from 1 (take l.hop-index l.hops)))
