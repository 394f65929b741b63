-- What holds of the files that are written for a network.
use Rattle.std.specs.Prelude.{◌≡◌, ℕ, Bool, true, List, [], map, Option, Some, None, Result, Ok, Err, string_bytes}
use Rattle.std.specs.List.{list_all}
use Rattle.rly_core.specs.declared.refusal.Refusal.{Refusal}
use Rattle.rly_network.specs.Check.{disagreements}
use Rattle.rly_network.specs.declared.station_plan.StationPlan.{StationPlan}
use Rattle.rly_network_file.specs.Ids.{Neighbours, is_kept}
use Rattle.rly_network_file.specs.declared.station_files.StationFiles.{StationFiles}
use Rattle.rly_plan.specs.ContactPlan.{ContactPlan}
use Rattle.rly_plan.specs.Passes.{plan_of_text}

-- the station whose plan a text holds, if it holds one
abbrev pub station_with : StationFiles → Result ContactPlan Refusal → Option StationPlan
station_with files (Err refusal) = None
station_with files (Ok plan) = Some (record { plan = plan; device = files.device })

abbrev pub station_plan : StationFiles → Option StationPlan
station_plan files = station_with files (plan_of_text (string_bytes files.plan))

-- the neighbours that a plan has, in the order of their ids
abbrev pub neighbours_in : ContactPlan → Neighbours
neighbours_in plan = record {
  number = plan.station;
  peers = map (λ p. p.station) plan.peers;
  hops = map (λ h. h.neighbour.station) plan.hops;
}

-- each id of the plan means the neighbour that the ids of its station give it
abbrev pub is_by : List Neighbours → StationPlan → Bool
is_by ids station = is_kept ids (neighbours_in station.plan)

-- The files are those of stations of these numbers. Each text reads as the plan of its station, whose peers and hops are
-- those of the ids, and these plans with their devices disagree on nothing.
pub record IsWritten (numbers : List ℕ) (ids : List Neighbours) (files : List StationFiles) : Type 0 where
  pub stations : List StationPlan
  pub read : map station_plan files ≡ map Some stations
  pub numbered : map (λ f. f.number) files ≡ numbers
  pub own : map (λ s. s.plan.station) stations ≡ numbers
  pub by_ids : list_all (is_by ids) stations ≡ true
  pub none : disagreements stations ≡ []
