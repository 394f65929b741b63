use Rattle.std.proofs.Common.{◌≡◌, map, take}
use Rattle.rly_plan_changes.specs.PlanIds.{station_of_peer}
use Rattle.rly_plan_changes.proofs.plan_ids.stations_of_peers.Given as goal

abbrev pub invariant-loop-peer : goal.invariant-loop-peer
invariant-loop-peer l = l.stations.items ≡ map station_of_peer (take l.peer-index l.peers)
