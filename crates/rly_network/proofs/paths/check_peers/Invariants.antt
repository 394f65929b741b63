use Rattle.std.proofs.Common.{◌≡◌, ◌++◌, take}
use Rattle.std.specs.List.{enumerate_from, flat_map}
use Rattle.rly_network.specs.Paths.{peer_conflicts}
use Rattle.rly_network.proofs.paths.check_peers.Given as goal

abbrev pub invariant-loop-peer : goal.invariant-loop-peer
invariant-loop-peer l =
    (l.number ≡ l.peer-index)
    × (l.found.items ≡ l.initial.found.items ++ flat_map (peer_conflicts l.stations l.station) (enumerate_from 1 (take l.peer-index l.peers)))
