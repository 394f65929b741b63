use Rattle.std.proofs.Common.{◌≡◌, replicate}
use Rattle.rly_hop.specs.Receiving.{receiver}
use Rattle.rly_world_pair.proofs.relays.new_receivers.Given as goal

-- the receiving cores so far
abbrev pub invariant-loop-core : goal.invariant-loop-core
invariant-loop-core l = l.cores.items ≡ replicate l._core (receiver (record { 0 = 2 }) (record { 0 = 1 }))
