use Rattle.std.proofs.Common.{◌≡◌, ◌++◌, take}
use Rattle.std.specs.List.{enumerate_from, flat_map}
use Rattle.rly_network.specs.Links.{hop_conflicts}
use Rattle.rly_network.proofs.links.check_hops.Given as goal

abbrev pub invariant-loop-hop : goal.invariant-loop-hop
invariant-loop-hop l =
    (l.number ≡ l.hop-index)
    × (l.found.items ≡ l.initial.found.items ++ flat_map (hop_conflicts l.stations l.station) (enumerate_from 1 (take l.hop-index l.hops)))
