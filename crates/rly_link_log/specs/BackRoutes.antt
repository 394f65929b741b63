-- The routes of a plan that lead back to the station that gives a datagram (docs/COMMANDS.md, "rly serve").
use Rattle.std.specs.Prelude.{ℕ, ◌==◌, if◌then◌else◌, List, [], ◌∷◌, find, Option, option_map}
use Rattle.std.specs.List.{flat_map}
use Rattle.rly_core.specs.declared.ids.HopId.{HopId}
use Rattle.rly_hop.specs.declared.message.StationId.{StationId}
use Rattle.rly_link.specs.declared.turn.Worker.{Worker}
use Rattle.rly_link.specs.declared.turn.Worker.TheVariants as worker
use Rattle.rly_link_log.specs.declared.back_routes.BackRoute.{BackRoute}
use Rattle.rly_plan.specs.ContactPlan.{ContactPlan, leads_to}
use Rattle.rly_plan.specs.declared.route.Destination.{Destination}
use Rattle.rly_plan.specs.declared.route.Destination.TheVariants.{Rest, Station}
use Rattle.rly_plan.specs.declared.route.Route.{Route}

-- the route of a destination by a hop, if that leads to the station; the rest never leads back
abbrev pub route_to : ContactPlan → StationId → Destination → HopId → List BackRoute
route_to plan station (Station destination) hop =
    if leads_to plan station.0 hop then record { destination = destination; hop = hop } ∷ [] else []
route_to plan station Rest hop = []

-- of these routes, those that lead to the station
abbrev pub routes_to : ContactPlan → StationId → List Route → List BackRoute
routes_to plan station routes = flat_map (λ r. route_to plan station r.destination r.hop) routes

-- those of a plan that lead to the station of a worker's peer: none for a hop's worker
abbrev pub back_routes : ContactPlan → Worker → (peer : StationId) → List BackRoute
back_routes plan (worker.Receiver id) peer = routes_to plan peer plan.routes
back_routes plan (worker.Sender id) peer = []

-- the hop of a destination, if its route is one of them
abbrev pub back_hop : List BackRoute → ℕ → Option HopId
back_hop routes destination = option_map (λ r. r.hop) (find (λ r. r.destination == destination) routes)
