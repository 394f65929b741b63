-- Properties of every plan, whatever its text.
use Rattle.std.specs.Prelude.{◌≢◌, ⊤, ℕ, ◌<◌, ◌≤◌, List, length, IfSome}
use Rattle.std.specs.List.{All, AllPairs}
use Rattle.rly_core.specs.Bounds.{IsIn}
use Rattle.rly_core.specs.declared.limits.TheConstants.{MAX_CONTACTS, MAX_HOPS, MAX_PEERS, MAX_RESEND, MIN_RESEND}
use Rattle.rly_core.specs.declared.limits.TheConstants.{MOMENT_LIMIT}
use Rattle.rly_plan.specs.declared.contacts.Contact.{Contact}
use Rattle.rly_plan.specs.declared.far_end.FolderEnd.{FolderEnd}
use Rattle.rly_plan.specs.declared.neighbour.Neighbour.{Neighbour}
use Rattle.rly_plan.specs.declared.route.Destination.{Destination}
use Rattle.rly_plan.specs.declared.route.Destination.TheVariants.{Rest, Station}
use Rattle.rly_plan.specs.ContactPlan.{ContactPlan}
use Rattle.rly_plan.specs.FarEnds.{folder_at}

-- the number of a station or a destination
abbrev pub IsStationNumber : ℕ → Type 0
IsStationNumber n = IsIn 1 65535 n

-- a destination is a station, or the rest
abbrev pub IsDestination : Destination → Type 0
IsDestination (Station station) = IsStationNumber station
IsDestination Rest = ⊤

-- the numbers of a folder
pub record IsSoundFolder (folder : FolderEnd) : Type 0 where
  pub destination : IfSome folder.destination IsStationNumber
  pub limit : IfSome folder.limit (IsIn 1 1099511627)
  pub most : IsIn 1 1000000 folder.most

-- a neighbour has a station number, and its folder, if it is one, is sound
pub record IsSoundNeighbour (n : Neighbour) : Type 0 where
  pub station : IsStationNumber n.station
  pub folder : IfSome (folder_at n.far) IsSoundFolder

-- each contact lasts, and ends no later than the next one begins
pub record AreInOrder (contacts : List Contact) : Type 0 where
  pub count : length contacts ≤ MAX_CONTACTS
  pub lasting : All (λ c. (c.begin < c.end) × (c.end < MOMENT_LIMIT)) contacts
  pub apart : AllPairs (λ c d. c.end ≤ d.begin) contacts

pub record IsSoundPlan (plan : ContactPlan) : Type 0 where
  pub station : IsStationNumber plan.station
  pub peer_count : IsIn 1 MAX_PEERS (length plan.peers)
  pub hop_count : IsIn 1 MAX_HOPS (length plan.hops)
  pub peers : All IsSoundNeighbour plan.peers
  pub hops : All (λ h. IsSoundNeighbour h.neighbour × AreInOrder h.contacts) plan.hops
  pub resends : All (λ h. IsIn MIN_RESEND MAX_RESEND h.resend) plan.hops
  pub rates : All (λ h. IfSome h.rate (IsIn 1 1000000000)) plan.hops
  pub leads : All (λ h. h.lead ≤ 86400) plan.hops
  pub routes : All (λ r. IsDestination r.destination × IsIn 1 (length plan.hops) r.hop.0) plan.routes
  pub one_peer_a_station : AllPairs (λ p q. p.station ≢ q.station) plan.peers
  pub one_hop_a_station : AllPairs (λ h k. h.neighbour.station ≢ k.neighbour.station) plan.hops
  pub one_route_a_destination : AllPairs (λ r s. r.destination ≢ s.destination) plan.routes
