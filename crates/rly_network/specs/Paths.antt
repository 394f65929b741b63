-- The ways of datagrams from plan to plan.
use Rattle.std.specs.Prelude.{ℕ, zero, suc, ◌==◌, Bool, List, [], ◌∷◌, length}
use Rattle.std.specs.Prelude.{Option, Some, None, Result, Ok, Err, is_some, option_and_then, if◌then◌else◌}
use Rattle.rly_core.specs.declared.ids.HopId.{HopId}
use Rattle.rly_plan.specs.ContactPlan.{at_number}
use Rattle.rly_plan.specs.FarEnds.{folder_at}
use Rattle.rly_plan.specs.declared.far_end.FolderEnd.{FolderEnd}
use Rattle.rly_plan.specs.declared.neighbour.Neighbour.{Neighbour}
use Rattle.rly_plan.specs.declared.plan.NextHop.{NextHop}
use Rattle.rly_plan.specs.declared.route.Destination.{Destination}
use Rattle.rly_plan.specs.declared.route.Destination.TheVariants.{Rest, Station}
use Rattle.rly_plan.specs.declared.route.Route.{Route}
use Rattle.rly_plan_syntax.specs.declared.key_path.PlanKey.{PlanKey}
use Rattle.rly_plan_syntax.specs.declared.key_path.PlanKey.TheVariants as key
use Rattle.rly_plan_syntax.specs.declared.key_path.Row.{Row}
use Rattle.rly_plan_syntax.specs.declared.key_path.Row.TheVariants as row
use Rattle.rly_network.specs.Disagreements.{found_at}
use Rattle.rly_network.specs.Stations.{has_route, hop_of, next_station, station_of}
use Rattle.rly_network.specs.declared.disagreement.Conflict.TheVariants.{Astray}
use Rattle.rly_network.specs.declared.disagreement.Disagreement.{Disagreement}
use Rattle.rly_network.specs.declared.disagreement.Trouble.{Trouble}
use Rattle.rly_network.specs.declared.disagreement.Trouble.TheVariants as trouble
use Rattle.rly_network.specs.declared.station_plan.StationPlan.{StationPlan}

-- the station is the destination's: it has that number, or, if none has it, a route of the destination's own
abbrev pub is_home_by : ℕ → StationPlan → Option StationPlan → Bool
is_home_by destination s (Some t) = s.plan.station == destination
is_home_by destination s None = has_route s.plan destination

abbrev pub is_home : List StationPlan → ℕ → StationPlan → Bool
is_home stations destination s = is_home_by destination s (station_of stations destination)

-- a way into a folder of the station; what goes to the rest may end in any
abbrev pub trouble_in_folder : List StationPlan → Option ℕ → StationPlan → Option Trouble
trouble_in_folder stations None s = None
trouble_in_folder stations (Some destination) s =
    if is_home stations destination s then None else Some (trouble.Elsewhere s.plan.station)

-- a way that ends at a hop of the station; a link to a station without a plan is told of the link
abbrev pub trouble_at_end : List StationPlan → Option ℕ → StationPlan → NextHop → Option Trouble
trouble_at_end stations to s hop =
    if length hop.contacts == 0 then Some (trouble.NeverOpen s.plan.station)
    else if is_some (folder_at hop.neighbour.far) then trouble_in_folder stations to s
    else None

-- the station to which a hop leads over a link, and its own hop there, or how the way ends
abbrev pub onward_at : StationPlan → Option HopId → Result (StationPlan × HopId) (Option Trouble)
onward_at t None = Err (Some (trouble.NoRoute t.plan.station))
onward_at t (Some next) = Ok (t, next)

abbrev pub onward_over : List StationPlan → Option ℕ → StationPlan → NextHop → Option StationPlan
    → Result (StationPlan × HopId) (Option Trouble)
onward_over stations to s hop None = Err (trouble_at_end stations to s hop)
onward_over stations to s hop (Some t) = onward_at t (hop_of t.plan s.plan.station to)

abbrev pub onward_by : List StationPlan → Option ℕ → StationPlan → Option NextHop
    → Result (StationPlan × HopId) (Option Trouble)
onward_by stations to s None = Err (Some (trouble.NoRoute s.plan.station))
onward_by stations to s (Some hop) = onward_over stations to s hop (next_station stations hop)

abbrev pub onward : List StationPlan → Option ℕ → StationPlan → HopId → Result (StationPlan × HopId) (Option Trouble)
onward stations to s hop = onward_by stations to s (at_number s.plan.hops hop.0)

-- the trouble of a way that ends, or of the way from the next station on
abbrev pub trouble_then : (StationPlan → HopId → Option Trouble) → Result (StationPlan × HopId) (Option Trouble)
    → Option Trouble
trouble_then later (Err trouble) = trouble
trouble_then later (Ok (t, next)) = later t next

-- where the way of what the station gives to the hop goes wrong, or isn't over after so many stations
abbrev pub trouble_of : List StationPlan → (to : Option ℕ) → ℕ → StationPlan → HopId → Option Trouble
trouble_of stations to zero s hop = Some (trouble.Circle s.plan.station)
trouble_of stations to (suc n) s hop = trouble_then (trouble_of stations to n) (onward stations to s hop)

-- ---- what is told

abbrev pub astray : StationPlan → Row → ℕ → PlanKey → Option ℕ → Option Trouble → List Disagreement
astray s row number key to None = []
astray s row number key to (Some trouble) = found_at s.plan.station row number key (Astray to trouble) ∷ []

-- the station that a destination names: none for the rest
abbrev pub class_of : Destination → Option ℕ
class_of (Station station) = Some station
class_of Rest = None

abbrev pub route_conflicts : List StationPlan → StationPlan → ℕ × Route → List Disagreement
route_conflicts stations s (number, route) =
    let to = class_of route.destination in
    astray s row.Route number key.Hop to (trouble_of stations to (length stations) s route.hop)

-- what a peer's station gives for a destination
abbrev pub trouble_from_hop : List StationPlan → StationPlan → ℕ → Option HopId → Option Trouble
trouble_from_hop stations s to None = Some (trouble.NoRoute s.plan.station)
trouble_from_hop stations s to (Some hop) = trouble_of stations (Some to) (length stations) s hop

abbrev pub trouble_from : List StationPlan → StationPlan → (from to : ℕ) → Option Trouble
trouble_from stations s from to = trouble_from_hop stations s to (hop_of s.plan from (Some to))

-- the destination of a peer's files, if the peer is a folder and gives it
abbrev pub declared : Neighbour → Option ℕ
declared peer = option_and_then (λ (f : FolderEnd). f.destination) (folder_at peer.far)

abbrev pub declared_conflicts : List StationPlan → StationPlan → ℕ → Neighbour → Option ℕ → List Disagreement
declared_conflicts stations s number peer None = []
declared_conflicts stations s number peer (Some to) =
    astray s row.Peer number key.Destination (Some to) (trouble_from stations s peer.station to)

abbrev pub peer_conflicts : List StationPlan → StationPlan → ℕ × Neighbour → List Disagreement
peer_conflicts stations s (number, peer) = declared_conflicts stations s number peer (declared peer)
