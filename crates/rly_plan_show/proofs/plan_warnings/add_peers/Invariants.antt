use Rattle.std.proofs.Common.{◌≡◌, ◌++◌, take}
use Rattle.std.specs.List.{enumerate_from, flat_map}
use Rattle.rly_plan_show.specs.PlanWarnings.{listen_of_peer}
use Rattle.rly_plan_show.proofs.plan_warnings.add_peers.Given as goal

abbrev pub invariant-loop-peer : goal.invariant-loop-peer
invariant-loop-peer l =
    (l.number ≡ l.peer-index)
    × (l.found.items ≡ l.initial.found.items ++ flat_map listen_of_peer (enumerate_from 1 (take l.peer-index l.peers)))
