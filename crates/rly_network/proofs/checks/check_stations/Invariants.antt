use Rattle.std.proofs.Common.{◌≡◌, ◌++◌, take}
use Rattle.std.specs.List.{flat_map}
use Rattle.rly_network.specs.Check.{station_conflicts}
use Rattle.rly_network.proofs.checks.check_stations.Given as goal

abbrev pub invariant-loop-station : goal.invariant-loop-station
invariant-loop-station l = l.found.items ≡ l.initial.found.items ++ flat_map (station_conflicts l.stations) (take l.station-index l.some)
