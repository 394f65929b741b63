use Rattle.std.proofs.Common.{◌≡◌, ◌++◌, drop, map, take}
use Rattle.rly_hop.specs.Receiving.{receiver}
use Rattle.rly_world_pair.proofs.relays.begin_anew.Given as goal

-- the cores so far have restarted
abbrev pub invariant-loop-core : goal.invariant-loop-core
invariant-loop-core l =
    l.cores ≡ map (λ _. receiver (record { 0 = 2 }) (record { 0 = 1 })) (take l.core-index l.fn.cores) ++ drop l.core-index l.fn.cores
