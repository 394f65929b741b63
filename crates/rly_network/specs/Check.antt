-- All that the plans of a network disagree on, in its order.
use Rattle.std.specs.Prelude.{nat_lt, List, [], ◌∷◌, ◌++◌, length, is_some}
use Rattle.std.specs.List.{enumerate_from, flat_map}
use Rattle.rly_plan_syntax.specs.declared.key_path.KeyPath.TheVariants as place
use Rattle.rly_plan_syntax.specs.declared.key_path.Row.{Row}
use Rattle.rly_plan_syntax.specs.declared.key_path.Row.TheVariants as row
use Rattle.rly_network.specs.Disagreements.{found_if}
use Rattle.rly_network.specs.Links.{hop_conflicts}
use Rattle.rly_network.specs.Paths.{peer_conflicts, route_conflicts}
use Rattle.rly_network.specs.Stations.{station_of}
use Rattle.rly_network.specs.declared.disagreement.Conflict.{Conflict}
use Rattle.rly_network.specs.declared.disagreement.Conflict.TheVariants as conflict
use Rattle.rly_network.specs.declared.disagreement.Disagreement.{Disagreement}
use Rattle.rly_network.specs.declared.station_plan.StationPlan.{StationPlan}

-- a station with a number that a later one has too
abbrev pub same_station : StationPlan → List StationPlan → List Disagreement
same_station s later = found_if (is_some (station_of later s.plan.station))
    (record { station = s.plan.station; place = place.Station; conflict = conflict.SameStation })

abbrev pub same_stations : List StationPlan → List Disagreement
same_stations [] = []
same_stations (s ∷ later) = same_station s later ++ same_stations later

-- more hops or peers than the device has
abbrev pub at_array : StationPlan → Row → Conflict → Disagreement
at_array s row conflict = record { station = s.plan.station; place = place.Array row; conflict = conflict }

abbrev pub device_conflicts : StationPlan → List Disagreement
device_conflicts s =
    found_if (nat_lt s.device.hops (length s.plan.hops)) (at_array s row.Hop (conflict.FewHops s.device.hops))
    ++ found_if (nat_lt s.device.peers (length s.plan.peers)) (at_array s row.Peer (conflict.FewPeers s.device.peers))

abbrev pub station_conflicts : List StationPlan → StationPlan → List Disagreement
station_conflicts stations s =
    device_conflicts s
    ++ flat_map (hop_conflicts stations s) (enumerate_from 1 s.plan.hops)
    ++ flat_map (peer_conflicts stations s) (enumerate_from 1 s.plan.peers)
    ++ flat_map (route_conflicts stations s) (enumerate_from 1 s.plan.routes)

abbrev pub disagreements : List StationPlan → List Disagreement
disagreements stations = same_stations stations ++ flat_map (station_conflicts stations) stations
