use Rattle.std.proofs.Common.{◌≡◌, ◌++◌, string_bytes, take}
use Rattle.std.specs.List.{flat_map}
use Rattle.rly_plan_changes.specs.PlanIds.{station_line}
use Rattle.rly_plan_changes.proofs.plan_ids.write_stations.Given as goal

abbrev pub invariant-loop-station : goal.invariant-loop-station
invariant-loop-station l = string_bytes l.text ≡ string_bytes l.initial.text ++ flat_map station_line (take l.station-index l.stations)
