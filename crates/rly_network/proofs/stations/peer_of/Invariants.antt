use Rattle.std.proofs.Common.{◌≡◌, drop, find}
use Rattle.rly_network.specs.Stations.{is_peer_of, peer_of}
use Rattle.rly_network.proofs.stations.peer_of.Given as goal

-- the peer is the first from here on
abbrev pub invariant-loop-peer : goal.invariant-loop-peer
invariant-loop-peer l = find (is_peer_of l.number) (drop l.peer-index l.peer-items) ≡ peer_of l.plan l.number
