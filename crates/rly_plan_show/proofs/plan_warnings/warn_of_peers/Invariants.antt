use Rattle.std.proofs.Common.{◌≡◌, ◌++◌, take}
use Rattle.std.specs.List.{enumerate_from, flat_map}
use Rattle.rly_plan_show.specs.PlanWarnings.{peer_warnings}
use Rattle.rly_plan_show.proofs.plan_warnings.warn_of_peers.Given as goal

abbrev pub invariant-loop-peer : goal.invariant-loop-peer
invariant-loop-peer l =
    (l.number ≡ l.peer-index)
    × (l.warnings.items ≡ l.initial.warnings.items ++ flat_map (peer_warnings l.plan) (enumerate_from 1 (take l.peer-index l.peers)))
