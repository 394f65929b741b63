-- Where nothing was found of a station: its device has each hop and peer, and its links agree.
use Rattle.std.proofs.Common.{◌≡◌, ℕ, ◌≤◌, ◌==◌, Bool, true, false, not, cond, nat_lt, List, [], ◌++◌, length, Option, Some, None, refl, sym, ap, ◌∙◌, arith}
use Rattle.std.specs.List.{Contains}
use Rattle.std.proofs.lemmas.Bool.{and_parts, eqb-true, ltb-false}
use Rattle.std.proofs.lemmas.List.Elements.{All-contains_itself}
use Rattle.rly_core.specs.declared.ids.HopId.{HopId}
use Rattle.rly_plan.specs.ContactPlan.{at_number}
use Rattle.rly_plan.specs.declared.neighbour.Neighbour.{Neighbour}
use Rattle.rly_plan.specs.declared.plan.NextHop.{NextHop}
use Rattle.rly_plan_syntax.specs.declared.key_path.PlanKey.TheVariants as key
use Rattle.rly_plan_syntax.specs.declared.key_path.Row.TheVariants as row
use Rattle.rly_network.specs.Check.{at_array}
use Rattle.rly_network.specs.Disagreements.{found_if}
use Rattle.rly_network.specs.Links.{at_hop, end_conflicts, ends_at, has_one_key, hop_conflicts, link_at, link_conflicts, reaches}
use Rattle.rly_network.specs.Network.{Agree, Takes}
use Rattle.rly_network.specs.Stations.{is_link, is_peer_of, peer_of, station_of}
use Rattle.rly_network.specs.declared.disagreement.Conflict.TheVariants as conflict
use Rattle.rly_network.specs.declared.station_plan.StationPlan.{StationPlan}
use Rattle.rly_network.proofs.NoneFound.{NoneOf, find_sound, found_none, nil_back, nil_front, number_in}

-- a hop of the plan takes a payload that is short enough
pub takes : (stations : List StationPlan) (s : StationPlan) (payload : List ℕ) (id : HopId) (hop : NextHop) → NoneOf stations s
    → length payload ≤ s.device.payload → at_number s.plan.hops id.0 ≡ Some hop → Takes s payload id hop
takes stations s payload id hop none short there =
    let few = found_if (nat_lt s.device.hops (length s.plan.hops)) (at_array s row.Hop (conflict.FewHops s.device.hops)) in
    let less = found_if (nat_lt s.device.peers (length s.plan.peers)) (at_array s row.Peer (conflict.FewPeers s.device.peers)) in
    let hops : length s.plan.hops ≤ s.device.hops =
    ltb-false s.device.hops (length s.plan.hops) (found_none _ _ (nil_front few less none.device)) in
    let peers : length s.plan.peers ≤ s.device.peers =
    ltb-false s.device.peers (length s.plan.peers) (found_none _ _ (nil_back few less none.device)) in
    let number = number_in s.plan.hops id.0 hop there in
    record { there = there; peers = peers; hops = (number.0, omega (arith, number.1, hops)); length = short }

-- a station that is looked up is one of them, and has that number
pub station_found : (stations : List StationPlan) (number : ℕ) (t : StationPlan) → station_of stations number ≡ Some t
    → Contains stations t × (t.plan.station ≡ number)
station_found stations number t found =
    let both = find_sound (Contains stations) (λ (s : StationPlan). s.plan.station == number) stations t (All-contains_itself stations) found in
    (both.0, eqb-true t.plan.station number both.1)

same_keys : (one other : Bool) → cond one (not other) other ≡ false → one ≡ other
same_keys true true is = refl
same_keys true false is = grind arith
same_keys false true is = grind arith
same_keys false false is = refl

not_not : (b : Bool) → not b ≡ false → b ≡ true
not_not true is = refl
not_not false is = grind arith

agreed_with : (s : StationPlan) (k : ℕ) (hop : Neighbour) (t : StationPlan) (peer : Neighbour) → t.plan.station ≡ hop.station
    → s.device.payload ≤ t.device.payload → peer_of t.plan s.plan.station ≡ Some peer → end_conflicts s k hop t peer ≡ [] → Agree s hop t
agreed_with s k hop t peer named payload found none =
    let sends = found_if (not (reaches hop peer)) (at_hop s k key.Remote (conflict.NotListening t.plan.station)) in
    let answers = found_if (not (reaches peer hop)) (at_hop s k key.Listen (conflict.NotSending t.plan.station)) in
    let keys = found_if (has_one_key hop peer) (at_hop s k key.Key (conflict.OneKey t.plan.station)) in
    let before_keys = nil_front (sends ++ answers) keys none in
    let is = find_sound (λ _. Unit {0}) (is_peer_of s.plan.station) t.plan.peers peer (λ _ _ _. tt) found in
    record {
      peer = peer;
      found = found;
      hop_names = sym named;
      peer_names = eqb-true peer.station s.plan.station (and_parts _ _ is.1).0;
      sends = not_not _ (found_none _ _ (nil_front sends answers before_keys));
      answers = not_not _ (found_none _ _ (nil_back sends answers before_keys));
      key = same_keys _ _ (found_none _ _ (nil_back (sends ++ answers) keys none));
      payload = payload;
    }

agreed_at : (s : StationPlan) (k : ℕ) (hop : Neighbour) (t : StationPlan) (peer : Option Neighbour) → t.plan.station ≡ hop.station
    → s.device.payload ≤ t.device.payload → peer_of t.plan s.plan.station ≡ peer → ends_at s k hop t peer ≡ [] → Agree s hop t
agreed_at s k hop t None named payload found none = absurd (grind arith)
agreed_at s k hop t (Some peer) named payload found none = agreed_with s k hop t peer named payload found none

linked : (s : StationPlan) (k : ℕ) (hop : Neighbour) (t : StationPlan) → t.plan.station ≡ hop.station → link_conflicts s k hop t ≡ [] → Agree s hop t
linked s k hop t named none =
    let short = found_if (nat_lt t.device.payload s.device.payload) (at_hop s k key.Station (conflict.ShortPayload t.plan.station)) in
    let ends = ends_at s k hop t (peer_of t.plan s.plan.station) in
    agreed_at s k hop t (peer_of t.plan s.plan.station) named
    (ltb-false t.device.payload s.device.payload (found_none _ _ (nil_front short ends none))) refl (nil_back short ends none)

-- the conflicts of a hop that leads over a link, by the station that was looked up
link_found : (stations : List StationPlan) (s : StationPlan) (k : ℕ) (hop : NextHop) (o : Option StationPlan) → hop_conflicts stations s (k, hop) ≡ []
    → is_link hop ≡ true → station_of stations hop.neighbour.station ≡ o → link_at s k hop.neighbour o ≡ []
link_found stations s k hop o none is far =
    ap (link_at s k hop.neighbour) (sym far)
    ∙ sym (ap (λ b. cond b (link_at s k hop.neighbour (station_of stations hop.neighbour.station)) []) is)
    ∙ none

-- the ends of a link agree
pub agreed : (stations : List StationPlan) (s : StationPlan) (k : ℕ) (hop : NextHop) (t : StationPlan) → hop_conflicts stations s (k, hop) ≡ []
    → is_link hop ≡ true → station_of stations hop.neighbour.station ≡ Some t → Agree s hop.neighbour t
agreed stations s k hop t none is far =
    linked s k hop.neighbour t (station_found stations hop.neighbour.station t far).1 (link_found stations s k hop (Some t) none is far)

-- a link leads to a station whose plan is there
pub plan_there : (stations : List StationPlan) (s : StationPlan) (k : ℕ) (hop : NextHop) → hop_conflicts stations s (k, hop) ≡ []
    → is_link hop ≡ true → station_of stations hop.neighbour.station ≡ None → ⊥
plan_there stations s k hop none is far =
    let empty = link_found stations s k hop None none is far in
    grind (arith, empty)
