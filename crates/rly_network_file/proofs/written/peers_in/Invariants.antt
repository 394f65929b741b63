use Rattle.std.proofs.Common.{◌≡◌, map, take}
use Rattle.rly_plan.specs.declared.neighbour.Neighbour.{Neighbour}
use Rattle.rly_network_file.proofs.written.peers_in.Given as goal

-- the numbers of the peers so far
abbrev pub invariant-loop-peer : goal.invariant-loop-peer
invariant-loop-peer l = l.numbers.items ≡ map (λ (p : Neighbour). p.station) (take l.peer-index l.peers)
