use Rattle.std.proofs.Common.{◌≡◌, map, take}
use Rattle.rly_plan_changes.specs.PlanIds.{station_of_hop}
use Rattle.rly_plan_changes.proofs.plan_ids.stations_of_hops.Given as goal

abbrev pub invariant-loop-hop : goal.invariant-loop-hop
invariant-loop-hop l = l.stations.items ≡ map station_of_hop (take l.hop-index l.hops)
