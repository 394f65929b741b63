-- Where no trouble was found on a way, it leads into a folder of the destination's station.
use Rattle.std.proofs.Common.{◌≡◌, ◌⊎◌, inl, inr, ℕ, zero, suc, ◌≤◌, ◌<◌, ◌==◌, Bool, true, false, ◌&&◌, cond, nat_lt, List, [], length, Option, Some, None, refl, sym, ap, ◌∙◌, arith}
use Rattle.std.specs.Prelude.{is_some, option_and_then}
use Rattle.std.specs.Option.{option_or}
use Rattle.std.specs.List.{Contains}
use Rattle.std.proofs.lemmas.Bool.{and_parts}
use Rattle.rly_core.specs.declared.ids.HopId.{HopId}
use Rattle.rly_plan.specs.ContactPlan.{at_number, destination_in, own_route, rest_for}
use Rattle.rly_plan.specs.FarEnds.{addresses_at, folder_at}
use Rattle.rly_plan.specs.declared.far_end.FarEnd.{FarEnd}
use Rattle.rly_plan.specs.declared.far_end.FarEnd.TheVariants.{Folder, Socket}
use Rattle.rly_plan.specs.declared.plan.NextHop.{NextHop}
use Rattle.rly_network.specs.Check.{disagreements}
use Rattle.rly_network.specs.Network.{Agree, Leads, Takes}
use Rattle.rly_network.specs.Paths.{is_home, onward_at, onward_by, onward_over, trouble_in_folder, trouble_of, trouble_then}
use Rattle.rly_network.specs.Stations.{hop_of, is_link, next_station, station_of}
use Rattle.rly_network.specs.declared.disagreement.Trouble.{Trouble}
use Rattle.rly_network.specs.declared.disagreement.Trouble.TheVariants as trouble
use Rattle.rly_network.specs.declared.station_plan.StationPlan.{StationPlan}
use Rattle.rly_network.proofs.Agreed.{agreed, plan_there, station_found, takes}
use Rattle.rly_network.proofs.NoneFound.{NoneOf, hop_none, none_of}

-- the station is the destination's, if there is one
abbrev pub IsHome : List StationPlan → Option ℕ → StationPlan → Type 0
IsHome stations None end = Unit {0}
IsHome stations (Some to) end = is_home stations to end ≡ true

-- the way ends in a folder of the station
pub record EndsHere (stations : List StationPlan) (to : Option ℕ) (payload : List ℕ) (s : StationPlan) (id : HopId) : Type 0 where
  pub hop : NextHop
  pub takes : Takes s payload id hop
  pub folder : is_some (folder_at hop.neighbour.far) ≡ true
  pub opens : 0 < length hop.contacts
  pub home : IsHome stations to s

-- the way goes on at a station t, where no trouble was found either
pub record GoesOn (stations : List StationPlan) (to : Option ℕ) (payload : List ℕ) (n : ℕ) (s : StationPlan) (id : HopId) : Type 0 where
  pub hop : NextHop
  pub takes : Takes s payload id hop
  pub t : StationPlan
  pub then : HopId
  pub far : station_of stations hop.neighbour.station ≡ Some t
  pub opens : 0 < length hop.contacts
  pub agree : Agree s hop.neighbour t
  pub led : hop_of t.plan s.plan.station to ≡ Some then
  pub clear : trouble_of stations to n t then ≡ None
  pub member : Contains stations t
  pub short : length payload ≤ t.device.payload

-- a station of the network that takes the payload, of which nothing was found
pub record IsHere (stations : List StationPlan) (payload : List ℕ) (s : StationPlan) : Type 0 where
  pub none : NoneOf stations s
  pub short : length payload ≤ s.device.payload

home_here : (stations : List StationPlan) (to : Option ℕ) (s : StationPlan) → trouble_in_folder stations to s ≡ None → IsHome stations to s
home_here stations None s clear = tt
home_here stations (Some to) s clear = elim (is_home stations to s) as (λ b. cond b None (Some (trouble.Elsewhere s.plan.station)) ≡ None → b ≡ true) [
  | true ↦ λ _. refl
  | false ↦ λ some. grind (arith, some)
] clear

-- a hop at a socket that no link leads over has no contacts
open_link : (far : FarEnd) (contacts : ℕ) → is_some (folder_at far) ≡ false → (contacts == 0) ≡ false
    → (is_some (addresses_at far) && nat_lt 0 contacts) ≡ true
open_link (Folder folder) contacts absent there = grind arith
open_link (Socket socket) contacts absent there = grind arith

-- two tests that found nothing
none_both : (b : Bool) (t : Trouble) (o : Option Trouble) → cond b (Some t) o ≡ None → (b ≡ false) × (o ≡ None)
none_both true t o clear = grind (arith, clear)
none_both false t o clear = (refl, clear)

above_0 : (n : ℕ) → (n == 0) ≡ false → 0 < n
above_0 zero is = grind (arith, is)
above_0 (suc n) is = omega arith

ends_by : (stations : List StationPlan) (to : Option ℕ) (payload : List ℕ) (n : ℕ) (s : StationPlan) (id : HopId) (hop : NextHop) (b : Bool)
    → IsHere stations payload s → at_number s.plan.hops id.0 ≡ Some hop → next_station stations hop ≡ None
    → is_some (folder_at hop.neighbour.far) ≡ b → (length hop.contacts == 0) ≡ false → cond b (trouble_in_folder stations to s) None ≡ None
    → EndsHere stations to payload s id ⊎ GoesOn stations to payload n s id
ends_by stations to payload n s id hop true here there unlinked folder opens clear =
    inl (record {
      hop = hop;
      takes = takes stations s payload id hop here.none here.short there;
      folder = folder;
      opens = above_0 (length hop.contacts) opens;
      home = home_here stations to s clear;
    })
ends_by stations to payload n s id hop false here there unlinked folder opens clear =
    let is : is_link hop ≡ true = open_link hop.neighbour.far (length hop.contacts) folder opens in
    let none = hop_none stations s id.0 hop here.none there in
    let far : station_of stations hop.neighbour.station ≡ None =
    sym (ap (λ c. cond c (station_of stations hop.neighbour.station) None) is) ∙ unlinked in
    absurd (plan_there stations s none.0 hop none.1 is far)

pub link_is : {A : Type 0} (b : Bool) (o : Option A) (x : A) → cond b o None ≡ Some x → (b ≡ true) × (o ≡ Some x)
link_is true o x is = (refl, is)
link_is false o x is = grind arith

goes_by : (stations : List StationPlan) (to : Option ℕ) (payload : List ℕ) (n : ℕ) (s : StationPlan) (id : HopId) (hop : NextHop) (t : StationPlan)
    (o : Option HopId) → IsHere stations payload s → at_number s.plan.hops id.0 ≡ Some hop → next_station stations hop ≡ Some t
    → hop_of t.plan s.plan.station to ≡ o → trouble_then (trouble_of stations to n) (onward_at t o) ≡ None
    → EndsHere stations to payload s id ⊎ GoesOn stations to payload n s id
goes_by stations to payload n s id hop t None here there next led clear = grind (arith, clear)
goes_by stations to payload n s id hop t (Some then) here there next led clear =
    let is = link_is (is_link hop) (station_of stations hop.neighbour.station) t next in
    let none = hop_none stations s id.0 hop here.none there in
    let agree = agreed stations s none.0 hop t none.1 is.0 is.1 in
    let opens = (and_parts (is_some (addresses_at hop.neighbour.far)) (nat_lt 0 (length hop.contacts)) is.0).1 in
    inr (record {
      hop = hop;
      takes = takes stations s payload id hop here.none here.short there;
      t = t;
      then = then;
      far = is.1;
      opens = grind (arith, opens);
      agree = agree;
      led = led;
      clear = clear;
      member = (station_found stations hop.neighbour.station t is.1).0;
      short = omega (arith, here.short, agree.payload);
    })

over_by : (stations : List StationPlan) (to : Option ℕ) (payload : List ℕ) (n : ℕ) (s : StationPlan) (id : HopId) (hop : NextHop)
    (o : Option StationPlan) → IsHere stations payload s → at_number s.plan.hops id.0 ≡ Some hop → next_station stations hop ≡ o
    → trouble_then (trouble_of stations to n) (onward_over stations to s hop o) ≡ None
    → EndsHere stations to payload s id ⊎ GoesOn stations to payload n s id
over_by stations to payload n s id hop None here there next clear =
    let both = none_both (length hop.contacts == 0) _ _ clear in
    ends_by stations to payload n s id hop (is_some (folder_at hop.neighbour.far)) here there next refl both.0 both.1
over_by stations to payload n s id hop (Some t) here there next clear =
    goes_by stations to payload n s id hop t (hop_of t.plan s.plan.station to) here there next refl clear

step_by : (stations : List StationPlan) (to : Option ℕ) (payload : List ℕ) (n : ℕ) (s : StationPlan) (id : HopId) (o : Option NextHop)
    → IsHere stations payload s → at_number s.plan.hops id.0 ≡ o → trouble_then (trouble_of stations to n) (onward_by stations to s o) ≡ None
    → EndsHere stations to payload s id ⊎ GoesOn stations to payload n s id
step_by stations to payload n s id None here there clear = grind (arith, clear)
step_by stations to payload n s id (Some hop) here there clear =
    over_by stations to payload n s id hop (next_station stations hop) here there refl clear

-- one station of a way on which no trouble was found
pub step : (stations : List StationPlan) (to : Option ℕ) (payload : List ℕ) (n : ℕ) (s : StationPlan) (id : HopId) → IsHere stations payload s
    → trouble_of stations to (suc n) s id ≡ None → EndsHere stations to payload s id ⊎ GoesOn stations to payload n s id
step stations to payload n s id here clear = step_by stations to payload n s id (at_number s.plan.hops id.0) here refl clear

-- ---- whole ways

abbrev pub Arrives : List StationPlan → Option ℕ → List ℕ → ℕ → StationPlan → HopId → Type 0
Arrives stations to payload n s id = (end : StationPlan) × Leads stations payload end n s id × IsHome stations to end

arrives : (stations : List StationPlan) (to : Option ℕ) (payload : List ℕ) (n : ℕ) (s : StationPlan) (id : HopId) → destination_in payload ≡ to
    → ((t : StationPlan) (then : HopId) → Contains stations t → length payload ≤ t.device.payload → trouble_of stations to n t then ≡ None
    → Arrives stations to payload n t then)
    → EndsHere stations to payload s id ⊎ GoesOn stations to payload n s id → Arrives stations to payload (suc n) s id
arrives stations to payload n s id names later (inl e) =
    (s, (e.hop, e.takes, inl (record { here = refl; folder = e.folder; opens = e.opens })), e.home)
arrives stations to payload n s id names later (inr g) =
    let rest = later g.t g.then g.member g.short g.clear in
    let led = ap (λ d. option_or (option_and_then (own_route g.t.plan) d) (rest_for g.t.plan s.plan.station)) names ∙ g.led in
    (rest.0, (g.hop, g.takes, inr (g.t, g.then, record { far = g.far; opens = g.opens; agree = g.agree; next = led }, rest.1)), rest.2)

-- a way to a destination, or of a payload that names none, on which no trouble was found
pub way : (stations : List StationPlan) (to : Option ℕ) (payload : List ℕ) → disagreements stations ≡ [] → destination_in payload ≡ to
    → (n : ℕ) (s : StationPlan) (id : HopId) → Contains stations s → length payload ≤ s.device.payload → trouble_of stations to n s id ≡ None
    → Arrives stations to payload n s id
way stations to payload none names zero s id member short clear = grind (arith, clear)
way stations to payload none names (suc n) s id member short clear =
    arrives stations to payload n s id names (λ t then. way stations to payload none names n t then)
    (step stations to payload n s id (record { none = none_of stations s none member; short = short }) clear)

-- a way is no shorter than it may be
pub longer : (stations : List StationPlan) (payload : List ℕ) (end : StationPlan) (n m : ℕ) (s : StationPlan) (id : HopId) → n ≤ m
    → Leads stations payload end n s id → Leads stations payload end m s id
longer stations payload end zero m s id less leads = absurd leads
longer stations payload end (suc n) zero s id less leads = absurd (omega (arith, less))
longer stations payload end (suc n) (suc m) s id less (hop, takes, inl ends) = (hop, takes, inl ends)
longer stations payload end (suc n) (suc m) s id less (hop, takes, inr (t, then, over, leads)) =
    (hop, takes, inr (t, then, over, longer stations payload end n m t then (omega (arith, less)) leads))
