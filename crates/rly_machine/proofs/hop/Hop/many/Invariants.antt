use Rattle.std.proofs.Common.{◌≡◌, map, replicate, vec_capacity}
use Rattle.rly_machine.specs.Kept.{hop_state}
use Rattle.rly_machine.specs.State.{new_hop}
use Rattle.rly_machine.proofs.hop.Hop.many.Given as goal

-- the new hops so far, and room for the others
abbrev pub invariant-loop-hop : goal.invariant-loop-hop
invariant-loop-hop g l = record {
  made : map hop_state l.hops.items ≡ replicate l._hop new_hop;
  room : vec_capacity l.hops ≡ l.count;
}
