-- The stations of a network, and what is looked up in their plans.
use Rattle.std.specs.Prelude.{ℕ, ◌==◌, nat_lt, Bool, ◌&&◌, List, length, Option, None, find, is_some, if◌then◌else◌, option_and_then}
use Rattle.std.specs.List.{list_any}
use Rattle.std.specs.Option.{option_or}
use Rattle.rly_core.specs.declared.ids.HopId.{HopId}
use Rattle.rly_plan.specs.ContactPlan.{ContactPlan, is_for, own_route, rest_for}
use Rattle.rly_plan.specs.FarEnds.{addresses_at}
use Rattle.rly_plan.specs.declared.neighbour.Neighbour.{Neighbour}
use Rattle.rly_plan.specs.declared.plan.NextHop.{NextHop}
use Rattle.rly_plan.specs.declared.route.Route.{Route}
use Rattle.rly_network.specs.declared.station_plan.StationPlan.{StationPlan}

-- the station of a number: the first that has it
abbrev pub station_of : List StationPlan → ℕ → Option StationPlan
station_of stations number = find (λ (s : StationPlan). s.plan.station == number) stations

-- the peer at a socket that has a station's number
abbrev pub is_peer_of : ℕ → Neighbour → Bool
is_peer_of number peer = (peer.station == number) && is_some (addresses_at peer.far)

abbrev pub peer_of : ContactPlan → ℕ → Option Neighbour
peer_of plan number = find (is_peer_of number) plan.peers

-- the hop leads over a link: it is at a socket and has a contact
abbrev pub is_link : NextHop → Bool
is_link hop = is_some (addresses_at hop.neighbour.far) && nat_lt 0 (length hop.contacts)

-- the plan has a route of the destination's own
abbrev pub has_route : ContactPlan → ℕ → Bool
has_route plan destination = list_any (λ (r : Route). is_for destination r.destination) plan.routes

-- The routing rule by the destination alone, if there is one: `hop_for` of a payload is that of its destination.
abbrev pub hop_of : ContactPlan → (from : ℕ) → (to : Option ℕ) → Option HopId
hop_of plan from to = option_or (option_and_then (own_route plan) to) (rest_for plan from)

-- the station that a hop of another one leads to over a link, if its plan is there
abbrev pub next_station : List StationPlan → NextHop → Option StationPlan
next_station stations hop = if is_link hop then station_of stations hop.neighbour.station else None
