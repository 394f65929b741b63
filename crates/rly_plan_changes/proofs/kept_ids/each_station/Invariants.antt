use Rattle.std.proofs.Common.{◌≡◌, drop}
use Rattle.toml.specs.View.{items_view}
use Rattle.rly_plan_syntax.specs.Draft.{each_item}
use Rattle.rly_plan_syntax.proofs.DraftLemmas.{behind}
use Rattle.rly_plan_changes.specs.PlanIds.{station_in}
use Rattle.rly_plan_changes.proofs.kept_ids.each_station.Given as goal

-- the stations read from here, after those so far, are those of the array
abbrev pub invariant-loop-value : goal.invariant-loop-value
invariant-loop-value l = behind l.stations.items (each_item station_in (items_view (drop l.value-index l.value-items))) ≡ each_item station_in (items_view l.value-items)
