-- The links of a station to folders that play its neighbours.
use Rattle.std.specs.Prelude.{◌≡◌, ℕ, ◌-◌, ◌*◌, min, nat_lt, Bool, true, List, [], ◌∷◌, length, Option, None, Some, is_some}
use Rattle.std.specs.List.{flat_map}
use Rattle.rly_folder.specs.declared.name.Area.{Area}
use Rattle.rly_folder_file.specs.FileFolder.{folder_path, is_locked}
use Rattle.rly_folder_file.specs.declared.file_folder.FileFolder.{FileFolder}
use Rattle.rly_hop.specs.declared.message.StationId.{StationId}
use Rattle.rly_link.specs.declared.turn.Worker.{Worker}
use Rattle.rly_link_folder.specs.HopNeighbour.{Neighbour}
use Rattle.rly_link_folder.specs.Inbox.{destination_of, inbox_folder, longest_of, routes_of, takes_rest}
use Rattle.rly_link_folder.specs.InboxCalls.{reason_for}
use Rattle.rly_link_folder.specs.Outbox.{folder_of, most_of}
use Rattle.rly_link_folder.specs.PeerNeighbour.{Peer}
use Rattle.rly_link_udp.specs.LinkDuties.{longest_until, longest_wait, own_station}
use Rattle.rly_plan.specs.ContactPlan.{ContactPlan, destination_in, hop_for, rest_for}
use Rattle.rly_plan.specs.declared.far_end.FolderEnd.{FolderEnd}
use Rattle.rly_plan.specs.declared.route.Destination.{Destination}
use Rattle.rly_plan.specs.declared.route.Destination.TheVariants.{Rest, Station}
use Rattle.rly_plan.specs.declared.route.Route.{Route}
use Rattle.rly_posts.specs.FolderLog.{HasNotedCalls, HasNotedPhase, LogView, log_view, new_log}
use Rattle.rly_posts.specs.declared.folder_log.FolderLog.{FolderLog}
use Rattle.rly_posts.specs.declared.incoming_link.IncomingLink.{IncomingLink}
use Rattle.rly_posts.specs.declared.outgoing_link.OutgoingLink.{OutgoingLink}

-- a folder was opened at a path, and is locked
pub record IsOpenAt {H : Type 0} (path : List ℕ) (folder : FileFolder H) : Type 0 where
  pub opened : folder_path folder ≡ path
  pub locked : is_locked folder ≡ true

-- the longest payload of messages with at most so many bytes
abbrev pub longest_payload : ℕ → ℕ
longest_payload longest = min (longest - 23) 8192

-- the stations that have a route of their own
abbrev pub station_in : Destination → List ℕ
station_in (Station station) = station ∷ []
station_in Rest = []

abbrev pub stations_of : List Route → List ℕ
stations_of routes = flat_map (λ r. station_in r.destination) routes

-- a station that has a route of its own: 0, which only the rest leads on, if none has
abbrev pub first_of : List ℕ → ℕ
first_of [] = 0
first_of (station ∷ stations) = station

abbrev pub probe_of : ContactPlan → ℕ
probe_of plan = first_of (stations_of plan.routes)

-- the reason for which the station of a plan, whose payloads have at most so many bytes, refuses a payload of a peer's
-- station for good: it has no hop for it by the routing rule, or the payload is too long
abbrev pub reason_by : ContactPlan → (station longest : ℕ) → List ℕ → Option Area
reason_by plan station longest payload =
    reason_for (is_some (hop_for plan station payload)) (nat_lt longest (length payload)) (destination_in payload)

-- the age limit of a datagram, in microseconds: 0 if it has none
abbrev pub limit_of : Option ℕ → ℕ
limit_of None = 0
limit_of (Some limit) = limit * 1000

-- The link to a folder whose files become datagrams: the folder, as it was opened, which plays the one station for the other;
-- the datagrams that this one takes; the age limit of each; how many may be on their way; the destination by which it asks
-- for the last number; and its longest wait, and that of one that has an end, in microseconds, if they are bounded. And its log,
-- which is new.
pub record IncomingDuty : Type 0 where
  pub path : List ℕ
  pub is_locked : Bool
  pub plays : StationId
  pub station : StationId
  pub routes : List ℕ
  pub rest : Bool
  pub longest : ℕ
  pub destination : Option ℕ
  pub limit : ℕ
  pub window : ℕ
  pub probe : ℕ
  pub rests : Option ℕ
  pub tries : Option ℕ
  pub log : LogView

abbrev pub incoming_duty : {C : Type 0} → IncomingLink C → IncomingDuty
incoming_duty l = record {
  path = folder_path l.opened.value;
  is_locked = is_locked l.opened.value;
  plays = l.link.neighbour.own;
  station = l.link.neighbour.station;
  routes = routes_of l.link.neighbour.rules;
  rest = takes_rest l.link.neighbour.rules;
  longest = longest_of l.link.neighbour.rules;
  destination = destination_of l.link.neighbour.rules;
  limit = l.link.neighbour.limit;
  window = l.link.neighbour.window;
  probe = l.link.neighbour.probe;
  rests = l.link.bell.longest;
  tries = l.link.bell.longest_until;
  log = log_view l.log;
}

-- by a plan whose messages have at most so many bytes
abbrev pub incoming_duty_of : ContactPlan → (longest turns : ℕ) → Worker → StationId → FolderEnd → List ℕ → IncomingDuty
incoming_duty_of plan longest turns w peer end path = record {
  path = path;
  is_locked = true;
  plays = peer;
  station = own_station plan;
  routes = stations_of plan.routes;
  rest = is_some (rest_for plan peer.0);
  longest = longest_payload longest;
  destination = end.destination;
  limit = limit_of end.limit;
  window = 64;
  probe = probe_of plan;
  rests = longest_wait w turns;
  tries = longest_until w;
  log = new_log w;
}

-- the link to a folder whose files were datagrams: the same, and the number of files at which it is full
pub record OutgoingDuty : Type 0 where
  pub path : List ℕ
  pub is_locked : Bool
  pub plays : StationId
  pub station : StationId
  pub most : ℕ
  pub rests : Option ℕ
  pub tries : Option ℕ
  pub log : LogView

abbrev pub outgoing_duty : {C : Type 0} → OutgoingLink C → OutgoingDuty
outgoing_duty l = record {
  path = folder_path l.opened.value;
  is_locked = is_locked l.opened.value;
  plays = l.link.neighbour.core.own;
  station = l.link.neighbour.core.peer;
  most = most_of l.link.neighbour.outbox;
  rests = l.link.bell.longest;
  tries = l.link.bell.longest_until;
  log = log_view l.log;
}

abbrev pub outgoing_duty_of : ContactPlan → (turns : ℕ) → Worker → StationId → FolderEnd → List ℕ → OutgoingDuty
outgoing_duty_of plan turns w peer end path = record {
  path = path;
  is_locked = true;
  plays = peer;
  station = own_station plan;
  most = end.most;
  rests = longest_wait w turns;
  tries = longest_until w;
  log = new_log w;
}

-- what a call of a link brought was logged: of the folder, and of the state of a peer's neighbour
abbrev pub HasNotedPeer : {H : Type 0} → Peer (FileFolder H) → FolderLog → FolderLog → Type 0
HasNotedPeer peer old new =
    (between : FolderLog) × HasNotedCalls (inbox_folder peer.inbox) old between × HasNotedPhase peer.phase between new

abbrev pub HasNotedHop : {H : Type 0} → Neighbour (FileFolder H) → FolderLog → FolderLog → Type 0
HasNotedHop hop old new = HasNotedCalls (folder_of hop.outbox) old new
