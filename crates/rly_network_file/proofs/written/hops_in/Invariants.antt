use Rattle.std.proofs.Common.{◌≡◌, map, take}
use Rattle.rly_plan.specs.declared.plan.NextHop.{NextHop}
use Rattle.rly_network_file.proofs.written.hops_in.Given as goal

-- the numbers of the hops so far
abbrev pub invariant-loop-hop : goal.invariant-loop-hop
invariant-loop-hop l = l.numbers.items ≡ map (λ (h : NextHop). h.neighbour.station) (take l.hop-index l.hops)
