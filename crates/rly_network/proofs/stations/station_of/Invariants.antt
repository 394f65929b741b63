use Rattle.std.proofs.Common.{◌≡◌, drop}
use Rattle.rly_network.specs.Stations.{station_of}
use Rattle.rly_network.proofs.stations.station_of.Given as goal

-- the station is the first from here on
abbrev pub invariant-loop-station : goal.invariant-loop-station
invariant-loop-station l = station_of (drop l.station-index l.stations) l.number ≡ station_of l.stations l.number
