-- What the two ends of a link disagree on.
use Rattle.std.specs.Prelude.{ℕ, ◌==◌, ◌-◌, nat_lt, Bool, false, not, ◌&&◌, ◌||◌, List, [], ◌∷◌, ◌++◌, codes, length, drop}
use Rattle.std.specs.Prelude.{Option, Some, None, is_some, if◌then◌else◌}
use Rattle.std.specs.List.{starts_with, ends_with}
use Rattle.std.specs.Str.{bytes_eq}
use Rattle.rly_plan.specs.FarEnds.{addresses_at, key_at}
use Rattle.rly_plan.specs.declared.neighbour.Neighbour.{Neighbour}
use Rattle.rly_plan.specs.declared.plan.NextHop.{NextHop}
use Rattle.rly_plan_syntax.specs.Endpoints.{Endpoints}
use Rattle.rly_plan_syntax.specs.declared.key_path.PlanKey.TheVariants as key
use Rattle.rly_plan_syntax.specs.declared.key_path.PlanKey.{PlanKey}
use Rattle.rly_plan_syntax.specs.declared.key_path.Row.TheVariants.{Hop}
use Rattle.rly_network.specs.Disagreements.{found_at, found_if}
use Rattle.rly_network.specs.Stations.{is_link, peer_of, station_of}
use Rattle.rly_network.specs.declared.disagreement.Conflict.{Conflict}
use Rattle.rly_network.specs.declared.disagreement.Conflict.TheVariants as conflict
use Rattle.rly_network.specs.declared.disagreement.Disagreement.{Disagreement}
use Rattle.rly_network.specs.declared.station_plan.StationPlan.{StationPlan}

-- `listen` begins with the address of any machine and a colon, and `remote` ends with the same colon and port
abbrev pub is_at_any : (any remote listen : List ℕ) → Bool
is_at_any any remote listen =
    starts_with (λ a b. a == b) listen any && ends_with (λ a b. a == b) remote (drop (length any - 1) listen)

-- packets to `remote` reach a socket that listens at `listen`: the two are the same, or `listen` is that port of each
-- address of its machine
abbrev pub is_reached : (remote listen : List ℕ) → Bool
is_reached remote listen =
    bytes_eq remote listen || (is_at_any (codes "0.0.0.0:") remote listen || is_at_any (codes "[::]:") remote listen)

-- packets of one end of a link reach the other one
abbrev pub reaches_at : Option Endpoints → Option Endpoints → Bool
reaches_at (Some addresses) (Some others) = is_reached addresses.remote others.listen
reaches_at (Some addresses) None = false
reaches_at None others = false

abbrev pub reaches : Neighbour → Neighbour → Bool
reaches end other = reaches_at (addresses_at end.far) (addresses_at other.far)

-- one end has a key, and the other one has none
abbrev pub has_one_key : Neighbour → Neighbour → Bool
has_one_key end other = if is_some (key_at end.far) then not (is_some (key_at other.far)) else is_some (key_at other.far)

abbrev pub at_hop : StationPlan → ℕ → PlanKey → Conflict → Disagreement
at_hop s number key conflict = found_at s.plan.station Hop number key conflict

-- of a hop and its peer at the far end
abbrev pub end_conflicts : StationPlan → ℕ → Neighbour → StationPlan → Neighbour → List Disagreement
end_conflicts s number hop t peer =
    found_if (not (reaches hop peer)) (at_hop s number key.Remote (conflict.NotListening t.plan.station))
    ++ found_if (not (reaches peer hop)) (at_hop s number key.Listen (conflict.NotSending t.plan.station))
    ++ found_if (has_one_key hop peer) (at_hop s number key.Key (conflict.OneKey t.plan.station))

abbrev pub ends_at : StationPlan → ℕ → Neighbour → StationPlan → Option Neighbour → List Disagreement
ends_at s number hop t None = at_hop s number key.Station (conflict.NoPeer t.plan.station) ∷ []
ends_at s number hop t (Some peer) = end_conflicts s number hop t peer

-- of a hop and the plan of the station that it leads to
abbrev pub link_conflicts : StationPlan → ℕ → Neighbour → StationPlan → List Disagreement
link_conflicts s number hop t =
    found_if (nat_lt t.device.payload s.device.payload)
    (at_hop s number key.Station (conflict.ShortPayload t.plan.station))
    ++ ends_at s number hop t (peer_of t.plan s.plan.station)

abbrev pub link_at : StationPlan → ℕ → Neighbour → Option StationPlan → List Disagreement
link_at s number hop None = at_hop s number key.Station (conflict.NoPlan hop.station) ∷ []
link_at s number hop (Some t) = link_conflicts s number hop t

-- of a hop; a hop without contacts is none of a link
abbrev pub hop_conflicts : List StationPlan → StationPlan → ℕ × NextHop → List Disagreement
hop_conflicts stations s (number, hop) =
    if is_link hop then link_at s number hop.neighbour (station_of stations hop.neighbour.station) else []
