use Rattle.std.proofs.Common.{◌≡◌, ◌++◌, drop}
use Rattle.rly_network.specs.Check.{same_stations}
use Rattle.rly_network.proofs.checks.check_numbers.Given as goal

-- the disagreements so far, before those of the remaining stations
abbrev pub invariant-loop-index : goal.invariant-loop-index
invariant-loop-index l = l.found.items ++ same_stations (drop l.index l.stations) ≡ l.initial.found.items ++ same_stations l.stations
