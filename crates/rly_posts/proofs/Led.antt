-- The link of a peer's folder has a hop for a payload where the plan has one.
use Rattle.std.proofs.Common.{◌≡◌, ◌∙◌, ◌++◌, ℕ, ◌==◌, Bool, true, false, ◌||◌, List, [], ◌∷◌, length, Option, Some, None, is_some, option_map, find, if◌then◌else◌, refl, ap}
use Rattle.std.specs.Prelude.{nat_lt, option_and_then}
use Rattle.std.specs.Option.{option_or}
use Rattle.rly_link_folder.specs.InboxCalls.{is_led, is_routed, reason_for, reason_of}
use Rattle.rly_link_folder.specs.InboxCalls.{destination_in as destination_of_file}
use Rattle.rly_plan.specs.ContactPlan.{ContactPlan, destination_in, is_for, own_route, rest_for}
use Rattle.rly_plan.specs.declared.route.Destination.{Destination}
use Rattle.rly_plan.specs.declared.route.Destination.TheVariants.{Rest, Station}
use Rattle.rly_plan.specs.declared.route.Route.{Route}
use Rattle.rly_posts.specs.Folders.{reason_by, station_in, stations_of}

-- the first route or one after it
first_or : (here : Bool) (route : Route) (later : Option Route) (more : Bool) → more ≡ is_some (option_map (λ (r : Route). r.hop) later)
    → (here || more) ≡ is_some (option_map (λ (r : Route). r.hop) (if here then Some route else later))
first_or true route later more same = refl
first_or false route later more same = same

one_more : (to : Destination) (destination : ℕ) (route : Route) (stations : List ℕ) (later : Option Route)
    → is_routed stations destination ≡ is_some (option_map (λ (r : Route). r.hop) later)
    → is_routed (station_in to ++ stations) destination ≡ is_some (option_map (λ (r : Route). r.hop) (if is_for destination to then Some route else later))
one_more (Station station) destination route stations later same = first_or (station == destination) route later (is_routed stations destination) same
one_more Rest destination route stations later same = same

routed : (routes : List Route) (destination : ℕ)
    → is_routed (stations_of routes) destination ≡ is_some (option_map (λ (r : Route). r.hop) (find (λ (r : Route). is_for destination r.destination) routes))
routed [] destination = refl
routed (route ∷ routes) destination =
    one_more route.destination destination route (stations_of routes) (find (λ (r : Route). is_for destination r.destination) routes) (routed routes destination)

either : {A : Type 0} (own rest : Option A) (there : Bool) → there ≡ is_some own → (there || is_some rest) ≡ is_some (option_or own rest)
either None rest there same = ap (λ b. b || is_some rest) same
either (Some hop) rest there same = ap (λ b. b || is_some rest) same

led_by : (plan : ContactPlan) (station : ℕ) (to : Option ℕ)
    → is_led (stations_of plan.routes) (is_some (rest_for plan station)) to
    ≡ is_some (option_or (option_and_then (own_route plan) to) (rest_for plan station))
led_by plan station None = refl
led_by plan station (Some destination) = either (own_route plan destination) (rest_for plan station) _ (routed plan.routes destination)

same_destination : (payload : List ℕ) → destination_of_file payload ≡ destination_in payload
same_destination [] = refl
same_destination (high ∷ []) = refl
same_destination (high ∷ low ∷ more) = refl

pub led : (plan : ContactPlan) (station longest : ℕ) (payload : List ℕ)
    → reason_of (stations_of plan.routes) (is_some (rest_for plan station)) longest payload ≡ reason_by plan station longest payload
led plan station longest payload =
    let is_long = nat_lt longest (length payload) in
    ap (λ to. reason_for (is_led (stations_of plan.routes) (is_some (rest_for plan station)) to) is_long to) (same_destination payload)
    ∙ ap (λ b. reason_for b is_long (destination_in payload)) (led_by plan station (destination_in payload))
