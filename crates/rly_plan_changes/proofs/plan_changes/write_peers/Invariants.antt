use Rattle.std.proofs.Common.{◌≡◌, ◌++◌, string_bytes, take}
use Rattle.std.specs.List.{enumerate_from, flat_map}
use Rattle.rly_plan_changes.specs.PlanChanges.{peer_changes}
use Rattle.rly_plan_changes.proofs.plan_changes.write_peers.Given as goal

abbrev pub invariant-loop-peer : goal.invariant-loop-peer
invariant-loop-peer l =
    (l.number ≡ l.peer-index)
    × (string_bytes l.text ≡ string_bytes l.initial.text ++ flat_map (peer_changes l.new) (enumerate_from 1 (take l.peer-index l.old)))
