-- The model of a plan, and its readers.
use Rattle.std.specs.Prelude.{ℕ, zero, suc, ◌+◌, ◌*◌, ◌-◌, ◌/◌, ◌==◌, nat_le, if◌then◌else◌, Bool, true, false, List, [], ◌∷◌}
use Rattle.std.specs.Prelude.{Option, Some, None, option_and_then, option_map, unwrap_or, find, slice_get}
use Rattle.std.specs.Option.{option_or}
use Rattle.rly_core.specs.declared.ids.HopId.{HopId}
use Rattle.rly_core.specs.declared.ids.PeerId.{PeerId}
use Rattle.rly_core.specs.declared.limits.TheConstants.{DEFAULT_RESEND, MOMENT_LIMIT}
use Rattle.rly_plan.specs.declared.contacts.Contact.{Contact}
use Rattle.rly_plan.specs.declared.neighbour.Neighbour.{Neighbour}
use Rattle.rly_plan.specs.declared.plan.NextHop.{NextHop}
use Rattle.rly_plan.specs.declared.route.Destination.{Destination}
use Rattle.rly_plan.specs.declared.route.Destination.TheVariants.{Rest, Station}
use Rattle.rly_plan.specs.declared.route.Route.{Route}
use Rattle.rly_plan.specs.Changes.{change_after}
use Rattle.rly_plan.specs.LinkClock.{lies_in_any, open_moments}

-- this station, its neighbours on both sides in the order of their ids, and the routes in the order of the file
pub record ContactPlan : Type 0 where
  pub station : ℕ
  pub peers : List Neighbour
  pub hops : List NextHop
  pub routes : List Route

-- the nth of a list, counting from 1
abbrev pub at_number : {A : Type 0} → List A → ℕ → Option A
at_number xs zero = None
at_number xs (suc n) = slice_get xs n

abbrev pub peer_at : ContactPlan → PeerId → Option Neighbour
peer_at plan peer = at_number plan.peers peer.0

abbrev pub next_hop_at : ContactPlan → HopId → Option Neighbour
next_hop_at plan hop = option_map (λ h. h.neighbour) (at_number plan.hops hop.0)

-- minimum retransmission timeout of a hop, in milliseconds: the default for a hop that doesn't exist
abbrev pub resend : ContactPlan → HopId → ℕ
resend plan hop = unwrap_or (option_map (λ h. h.resend) (at_number plan.hops hop.0)) DEFAULT_RESEND

-- rate limit of a hop in bytes a second, if it has one: None for a hop that doesn't exist
abbrev pub rate : ContactPlan → HopId → Option ℕ
rate plan hop = unwrap_or (option_map (λ h. h.rate) (at_number plan.hops hop.0)) None

-- how long before an opening of the hop's link it is announced, in seconds: 0 for a hop that doesn't exist
abbrev pub lead : ContactPlan → HopId → ℕ
lead plan hop = unwrap_or (option_map (λ h. h.lead) (at_number plan.hops hop.0)) 0

-- the contacts of a hop: none for a hop that doesn't exist
abbrev pub contacts_of : ContactPlan → HopId → List Contact
contacts_of plan hop = unwrap_or (option_map (λ h. h.contacts) (at_number plan.hops hop.0)) []

-- the hop's link is open at the moment
abbrev pub is_open : ContactPlan → HopId → ℕ → Bool
is_open plan hop moment = lies_in_any (contacts_of plan hop) moment

-- the hop's link clock
abbrev pub link : ContactPlan → HopId → ℕ → ℕ
link plan hop moment = open_moments (contacts_of plan hop) moment

-- the next opening or closing of the hop's link
abbrev pub next_change : ContactPlan → HopId → ℕ → Option ℕ
next_change plan hop moment = change_after (contacts_of plan hop) moment

-- how much of a time that is left on the wall clock may be slept, in microseconds: all of at most 100 ms, else half,
-- so that a clock that is slewed is followed
abbrev pub sleep_of : ℕ → ℕ
sleep_of left = if nat_le left 100000 then left else left / 2

-- how long may be slept at a moment before the clock is looked at again for the next change
abbrev pub edge_wait : ContactPlan → HopId → ℕ → Option ℕ
edge_wait plan hop now = option_map (λ change. sleep_of (change - now)) (next_change plan hop now)

-- the open time of the hop's link in all its contacts: its clock after the last possible moment of a contact
abbrev pub open_time : ContactPlan → HopId → ℕ
open_time plan hop = link plan hop MOMENT_LIMIT

-- the destination names that station; it is the rest
abbrev pub is_for : ℕ → Destination → Bool
is_for destination (Station station) = station == destination
is_for destination Rest = false

abbrev pub is_rest : Destination → Bool
is_rest (Station station) = false
is_rest Rest = true

-- the hop of the route that names the destination
abbrev pub own_route : ContactPlan → ℕ → Option HopId
own_route plan destination = option_map (λ r. r.hop) (find (λ r. is_for destination r.destination) plan.routes)

-- the hop of the rest: of each destination without a route of its own, and of payloads that name none
abbrev pub rest : ContactPlan → Option HopId
rest plan = option_map (λ r. r.hop) (find (λ r. is_rest r.destination) plan.routes)

-- the hop leads to that station
abbrev pub leads_to : ContactPlan → ℕ → HopId → Bool
leads_to plan station hop = unwrap_or (option_map (λ n. n.station == station) (next_hop_at plan hop)) false

-- the rest of what a peer's station gives: none if its hop leads back to that station
abbrev pub unless_back : ContactPlan → ℕ → HopId → Option HopId
unless_back plan station hop = if leads_to plan station hop then None else Some hop

abbrev pub rest_for : ContactPlan → ℕ → Option HopId
rest_for plan station = option_and_then (unless_back plan station) (rest plan)

-- the destination that a payload names by its first two bytes, the greater one first: none if it is shorter
abbrev pub destination_in : List ℕ → Option ℕ
destination_in [] = None
destination_in (high ∷ []) = None
destination_in (high ∷ low ∷ more) = Some (high * 256 + low)

-- The routing rule: the hop of a payload that a peer's station gives. It is that of its destination's own route; else
-- that of the rest, unless it leads back to that station.
abbrev pub hop_for : ContactPlan → (station : ℕ) → (payload : List ℕ) → Option HopId
hop_for plan station payload =
    option_or (option_and_then (own_route plan) (destination_in payload)) (rest_for plan station)
