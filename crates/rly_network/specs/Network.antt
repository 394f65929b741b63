-- What holds of a network whose plans don't disagree.
use Rattle.std.specs.Prelude.{◌≡◌, ◌⊎◌, ℕ, zero, suc, ◌<◌, ◌≤◌, true, List, length, Some, is_some}
use Rattle.rly_core.specs.Bounds.{IsIn}
use Rattle.rly_core.specs.declared.ids.HopId.{HopId}
use Rattle.rly_plan.specs.ContactPlan.{at_number, hop_for}
use Rattle.rly_plan.specs.FarEnds.{folder_at, key_at}
use Rattle.rly_plan.specs.declared.neighbour.Neighbour.{Neighbour}
use Rattle.rly_plan.specs.declared.plan.NextHop.{NextHop}
use Rattle.rly_network.specs.Links.{reaches}
use Rattle.rly_network.specs.Stations.{peer_of, station_of}
use Rattle.rly_network.specs.declared.station_plan.StationPlan.{StationPlan}

-- The two ends of a link agree, from a hop of the station s to the station t: each names the other's station, each sends to
-- where the other listens, both have a key or none, and t takes payloads that are as long.
pub record Agree (s : StationPlan) (hop : Neighbour) (t : StationPlan) : Type 0 where
  pub peer : Neighbour
  pub found : peer_of t.plan s.plan.station ≡ Some peer
  pub hop_names : hop.station ≡ t.plan.station
  pub peer_names : peer.station ≡ s.plan.station
  pub sends : reaches hop peer ≡ true
  pub answers : reaches peer hop ≡ true
  pub key : is_some (key_at hop.far) ≡ is_some (key_at peer.far)
  pub payload : s.device.payload ≤ t.device.payload

-- A Take of the payload to that hop isn't refused for its peer (1), its hop (2) or its length (5): the device has each peer of
-- the plan and the hop, and takes payloads that are as long.
pub record Takes (s : StationPlan) (payload : List ℕ) (id : HopId) (hop : NextHop) : Type 0 where
  pub there : at_number s.plan.hops id.0 ≡ Some hop
  pub peers : length s.plan.peers ≤ s.device.peers
  pub hops : IsIn 1 s.device.hops id.0
  pub length : length payload ≤ s.device.payload

-- the hop is a folder of the station `end`, and has a contact
pub record EndsIn (end s : StationPlan) (hop : NextHop) : Type 0 where
  pub here : end ≡ s
  pub folder : is_some (folder_at hop.neighbour.far) ≡ true
  pub opens : 0 < length hop.contacts

-- the hop of s leads over a link whose ends agree to the station t, whose plan leads the payload on to the next hop
pub record LeadsOver (stations : List StationPlan) (payload : List ℕ) (s : StationPlan) (hop : NextHop) (t : StationPlan)
    (then : HopId) : Type 0 where
  pub far : station_of stations hop.neighbour.station ≡ Some t
  pub opens : 0 < length hop.contacts
  pub agree : Agree s hop.neighbour t
  pub next : hop_for t.plan s.plan.station payload ≡ Some then

-- Following `hop_for` from the hop of the station s, from plan to plan, leads into a folder of the station `end`, over at most
-- that many stations, s among them. Each of them takes the payload.
abbrev pub Leads : List StationPlan → (payload : List ℕ) → (end : StationPlan) → ℕ → (s : StationPlan) → HopId → Type 0
Leads stations payload end zero s id = ⊥
Leads stations payload end (suc n) s id = (hop : NextHop) × Takes s payload id hop
    × (EndsIn end s hop ⊎ ((t : StationPlan) × (then : HopId) × LeadsOver stations payload s hop t then
    × Leads stations payload end n t then))
