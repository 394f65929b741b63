use Rattle.std.proofs.Common.{◌≡◌, drop}
use Rattle.rly_network_file.specs.Ids.{rows_repeat}
use Rattle.rly_network_file.proofs.distinct.rows_repeat.Given as goal

-- whether a station from here on has a neighbour with two ids
abbrev pub invariant-loop-station : goal.invariant-loop-station
invariant-loop-station l = rows_repeat (drop l.station-index l.stations) ≡ rows_repeat l.stations
