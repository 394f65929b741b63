-- The laws of a network whose plans don't disagree.
use Rattle.std.proofs.Common.{◌≡◌, ◌⊎◌, inl, inr, ℕ, zero, suc, ◌+◌, ◌≤◌, Bool, true, List, [], length, Option, Some, None, find, refl, sym, ap, ◌∙◌, arith}
use Rattle.std.specs.Prelude.{option_and_then, option_map}
use Rattle.std.specs.Option.{option_or}
use Rattle.std.specs.List.{Contains}
use Rattle.std.proofs.lemmas.Bool.{eqb-true}
use Rattle.std.proofs.lemmas.List.Elements.{All-contains}
use Rattle.std.proofs.lemmas.Option.{same_Some}
use Rattle.rly_core.specs.declared.ids.HopId.{HopId}
use Rattle.rly_plan.specs.ContactPlan.{destination_in, hop_for, is_for, is_rest, own_route, rest, rest_for}
use Rattle.rly_plan.specs.declared.neighbour.Neighbour.{Neighbour}
use Rattle.rly_plan.specs.declared.route.Destination.{Destination}
use Rattle.rly_plan.specs.declared.route.Destination.TheVariants.{Rest, Station}
use Rattle.rly_plan.specs.declared.route.Route.{Route}
use Rattle.rly_plan_syntax.specs.declared.key_path.PlanKey.{PlanKey}
use Rattle.rly_plan_syntax.specs.declared.key_path.Row.{Row}
use Rattle.rly_network.specs.Check.{disagreements}
use Rattle.rly_network.specs.Network.{Leads}
use Rattle.rly_network.specs.Paths.{astray, class_of, declared, declared_conflicts, is_home, peer_conflicts, route_conflicts, trouble_from, trouble_from_hop, trouble_of}
use Rattle.rly_network.specs.Stations.{hop_of}
use Rattle.rly_network.specs.declared.disagreement.Trouble.{Trouble}
use Rattle.rly_network.specs.declared.station_plan.StationPlan.{StationPlan}
use Rattle.rly_network.proofs.NoneFound.{NoneOf, find_sound, none_of}
use Rattle.rly_network.proofs.Shortest.{lead_is, rest_is, shortest}
use Rattle.rly_network.proofs.Ways.{EndsHere, GoesOn, step, way, longer}

not_astray : (s : StationPlan) (row : Row) (k : ℕ) (key : PlanKey) (to : Option ℕ) (t : Option Trouble) → astray s row k key to t ≡ [] → t ≡ None
not_astray s row k key to None none = refl
not_astray s row k key to (Some trouble) none = grind (arith, none)

-- the route of a hop that was found
route_found : (test : Route → Bool) (stations : List StationPlan) (s : StationPlan) (hop : HopId) (o : Option Route) → NoneOf stations s
    → find test s.plan.routes ≡ o → option_map (λ (r : Route). r.hop) o ≡ Some hop
    → (r : Route) × (r.hop ≡ hop) × (test r ≡ true) × (trouble_of stations (class_of r.destination) (length stations) s r.hop ≡ None)
route_found test stations s hop None none found is = grind (arith, is)
route_found test stations s hop (Some r) none found is =
    let P = λ (q : Route). (k : ℕ) × (route_conflicts stations s (k, q) ≡ []) in
    let both : P r × (test r ≡ true) = find_sound P test s.plan.routes r none.routes found in
    (r, same_Some r.hop hop is, both.1, not_astray s _ both.0.0 _ (class_of r.destination) _ both.0.1)

class_for : (to : ℕ) (d : Destination) → is_for to d ≡ true → class_of d ≡ Some to
class_for to (Station station) is = ap Some (eqb-true station to is)
class_for to Rest is = grind (arith, is)

class_rest : (d : Destination) → is_rest d ≡ true → class_of d ≡ None
class_rest (Station station) is = grind (arith, is)
class_rest Rest is = refl

-- no trouble on the way of a destination's own route
own_clear : (stations : List StationPlan) (s : StationPlan) (to : ℕ) (hop : HopId) → NoneOf stations s → own_route s.plan to ≡ Some hop
    → trouble_of stations (Some to) (length stations) s hop ≡ None
own_clear stations s to hop none is =
    let test = λ (r : Route). is_for to r.destination in
    let found = route_found test stations s hop (find test s.plan.routes) none refl is in
    sym (ap (λ c. trouble_of stations c (length stations) s hop) (class_for to found.0.destination found.2))
    ∙ sym (ap (λ h. trouble_of stations (class_of found.0.destination) (length stations) s h) found.1)
    ∙ found.3

-- no trouble on the way of the rest
rest_clear : (stations : List StationPlan) (s : StationPlan) (hop : HopId) → NoneOf stations s → rest s.plan ≡ Some hop
    → trouble_of stations None (length stations) s hop ≡ None
rest_clear stations s hop none is =
    let test = λ (r : Route). is_rest r.destination in
    let found = route_found test stations s hop (find test s.plan.routes) none refl is in
    sym (ap (λ c. trouble_of stations c (length stations) s hop) (class_rest found.0.destination found.2))
    ∙ sym (ap (λ h. trouble_of stations (class_of found.0.destination) (length stations) s h) found.1)
    ∙ found.3

-- by a route of the destination's own
pub own_arrives : (stations : List StationPlan) (s : StationPlan) (payload : List ℕ) (to : ℕ) (hop : HopId) → disagreements stations ≡ []
    → Contains stations s → length payload ≤ s.device.payload → destination_in payload ≡ Some to → own_route s.plan to ≡ Some hop
    → (end : StationPlan) × Leads stations payload end (length stations) s hop × (is_home stations to end ≡ true)
own_arrives stations s payload to hop none member short names is =
    way stations (Some to) payload none names (length stations) s hop member short (own_clear stations s to hop (none_of stations s none member) is)

-- the same where the payload names a destination, if that is given
own_leads : (stations : List StationPlan) (s : StationPlan) (payload : List ℕ) (hop : HopId) (named : Option ℕ) → disagreements stations ≡ []
    → Contains stations s → length payload ≤ s.device.payload → destination_in payload ≡ named → option_and_then (own_route s.plan) named ≡ Some hop
    → (end : StationPlan) × Leads stations payload end (length stations) s hop
own_leads stations s payload hop None none member short names is = grind (arith, is)
own_leads stations s payload hop (Some to) none member short names is =
    let arrives = own_arrives stations s payload to hop none member short names is in
    (arrives.0, arrives.1)

-- what a station does with a payload that the rest would lead to `then`: a route of the destination's own comes first
later_by : (stations : List StationPlan) (s t : StationPlan) (payload : List ℕ) (m : ℕ) (then : HopId) (own : Option HopId) → disagreements stations ≡ []
    → Contains stations t → length payload ≤ t.device.payload → length stations ≤ m → rest_for t.plan s.plan.station ≡ Some then
    → ((end : StationPlan) × Leads stations payload end m t then)
    → option_and_then (own_route t.plan) (destination_in payload) ≡ own
    → (next : HopId) × (hop_for t.plan s.plan.station payload ≡ Some next) × (end : StationPlan) × Leads stations payload end m t next
later_by stations s t payload m then None none member short room is rests own =
    (then, ap (λ o. option_or o (rest_for t.plan s.plan.station)) own ∙ is, rests.0, rests.1)
later_by stations s t payload m then (Some next) none member short room is rests own =
    let leads = own_leads stations t payload next (destination_in payload) none member short refl own in (
      next,
      ap (λ o. option_or o (rest_for t.plan s.plan.station)) own,
      leads.0,
      longer stations payload leads.0 (length stations) m t next room leads.1,
    )

rest_step : (stations : List StationPlan) (payload : List ℕ) (n m : ℕ) (s : StationPlan) (id : HopId) → disagreements stations ≡ []
    → length stations ≤ m
    → ((t : StationPlan) (then : HopId) → Contains stations t → length payload ≤ t.device.payload → trouble_of stations None n t then ≡ None
    → (end : StationPlan) × Leads stations payload end m t then)
    → EndsHere stations None payload s id ⊎ GoesOn stations None payload n s id → (end : StationPlan) × Leads stations payload end (suc m) s id
rest_step stations payload n m s id none room later (inl e) =
    (s, (e.hop, e.takes, inl (record { here = refl; folder = e.folder; opens = e.opens })))
rest_step stations payload n m s id none room later (inr g) =
    let rests = later g.t g.then g.member g.short g.clear in
    let on = later_by stations s g.t payload m g.then (option_and_then (own_route g.t.plan) (destination_in payload)) none g.member g.short room g.led rests refl in
    (on.2, (g.hop, g.takes, inr (g.t, on.0, record { far = g.far; opens = g.opens; agree = g.agree; next = on.1 }, on.3)))

-- where the rest leads: over stations that the rest leads on, and from the first with a route of the destination's own by that
rest_leads : (stations : List StationPlan) (payload : List ℕ) → disagreements stations ≡ [] → (n m : ℕ) (s : StationPlan) (id : HopId)
    → n + length stations ≤ m → Contains stations s → length payload ≤ s.device.payload → trouble_of stations None n s id ≡ None
    → (end : StationPlan) × Leads stations payload end m s id
rest_leads stations payload none zero m s id room member short clear = grind (arith, clear)
rest_leads stations payload none (suc n) zero s id room member short clear = absurd (omega (arith, room))
rest_leads stations payload none (suc n) (suc m) s id room member short clear =
    rest_step stations payload n m s id none (omega (arith, room))
    (λ t then among fits ok. rest_leads stations payload none n m t then (omega (arith, room)) among fits ok)
    (step stations None payload n s id (record { none = none_of stations s none member; short = short }) clear)

any_by : (stations : List StationPlan) (s : StationPlan) (payload : List ℕ) (from : ℕ) (hop : HopId) (own : Option HopId) → disagreements stations ≡ []
    → Contains stations s → length payload ≤ s.device.payload → option_and_then (own_route s.plan) (destination_in payload) ≡ own
    → option_or own (rest_for s.plan from) ≡ Some hop
    → (end : StationPlan) × Leads stations payload end (length stations + length stations) s hop
any_by stations s payload from hop None none member short own is =
    rest_leads stations payload none (length stations) (length stations + length stations) s hop (omega arith) member short
    (rest_clear stations s hop (none_of stations s none member) (rest_is s.plan from (rest s.plan) hop refl is))
any_by stations s payload from hop (Some first) none member short own is =
    let leads = own_leads stations s payload hop (destination_in payload) none member short refl (own ∙ is) in
    (leads.0, longer stations payload leads.0 (length stations) (length stations + length stations) s hop (omega arith) leads.1)

-- by any route
pub any_leads : (stations : List StationPlan) (s : StationPlan) (payload : List ℕ) (from : ℕ) (hop : HopId) → disagreements stations ≡ []
    → Contains stations s → length payload ≤ s.device.payload → hop_for s.plan from payload ≡ Some hop
    → (end : StationPlan) × Leads stations payload end (length stations) s hop
any_leads stations s payload from hop none member short is =
    let leads = any_by stations s payload from hop (option_and_then (own_route s.plan) (destination_in payload)) none member short refl is in
    (leads.0, shortest stations payload leads.0 (length stations + length stations) s hop member (lead_is s.plan from payload hop is) leads.1)

from_by : (stations : List StationPlan) (s : StationPlan) (to : ℕ) (o : Option HopId) → trouble_from_hop stations s to o ≡ None
    → (hop : HopId) × (o ≡ Some hop) × (trouble_of stations (Some to) (length stations) s hop ≡ None)
from_by stations s to None clear = grind (arith, clear)
from_by stations s to (Some hop) clear = (hop, refl, clear)

declared_by : (stations : List StationPlan) (s : StationPlan) (k : ℕ) (peer : Neighbour) (to : ℕ) (o : Option ℕ) → o ≡ Some to
    → declared_conflicts stations s k peer o ≡ [] → trouble_from stations s peer.station to ≡ None
declared_by stations s k peer to None is none = grind (arith, is)
declared_by stations s k peer to (Some t) is none =
    ap (trouble_from stations s peer.station) (sym (same_Some t to is)) ∙ not_astray s _ k _ (Some t) _ none

-- from a folder that gives its destination
pub declared_arrives : (stations : List StationPlan) (s : StationPlan) (peer : Neighbour) (payload : List ℕ) (to : ℕ) → disagreements stations ≡ []
    → Contains stations s → Contains s.plan.peers peer → declared peer ≡ Some to → length payload ≤ s.device.payload → destination_in payload ≡ Some to
    → (hop : HopId) × (hop_for s.plan peer.station payload ≡ Some hop)
    × (end : StationPlan) × Leads stations payload end (length stations) s hop × (is_home stations to end ≡ true)
declared_arrives stations s peer payload to none member peered is short names =
    let here = none_of stations s none member in
    let P = λ (p : Neighbour). (k : ℕ) × (peer_conflicts stations s (k, p) ≡ []) in
    let at : P peer = All-contains P s.plan.peers peer here.peers peered in
    let clear : trouble_from stations s peer.station to ≡ None = declared_by stations s at.0 peer to (declared peer) is at.1 in
    let found = from_by stations s to (hop_of s.plan peer.station (Some to)) clear in
    let arrives = way stations (Some to) payload none names (length stations) s found.0 member short found.2 in
    let led = ap (λ d. option_or (option_and_then (own_route s.plan) d) (rest_for s.plan peer.station)) names ∙ found.1 in
    (found.0, led, arrives.0, arrives.1, arrives.2)
