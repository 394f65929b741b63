-- The duty of a worker's link to a socket, and of its clock.
use Rattle.std.specs.Prelude.{ℕ, ◌==◌, nat_lt, if◌then◌else◌, Bool, false, is_some, List, [], map, option_and_then, Option, None, Some}
use Rattle.std.specs.Option.{is_none}
use Rattle.rly_plan.specs.ContactPlan.{ContactPlan}
use Rattle.rly_plan_syntax.specs.Endpoints.{Endpoints}
use Rattle.rly_hop.specs.declared.message.StationId.{StationId}
use Rattle.rly_link.specs.declared.turn.Worker.{Worker}
use Rattle.rly_link.specs.declared.turn.Worker.TheVariants as worker
use Rattle.rly_link_auth.specs.Keys.{Keys}
use Rattle.rly_link_auth.specs.StationLink.{keys_over, link_below}
use Rattle.rly_link_udp.specs.FolderWatch.{path_of, seen_of, unseen}
use Rattle.rly_link_log.specs.BackRoutes.{back_routes}
use Rattle.rly_link_log.specs.LinkLog.{LinkView, link_view, new_link_view}
use Rattle.rly_link_udp.specs.LinkReorder.{reorder_for}
use Rattle.rly_link_udp.specs.UdpOpener.{patient_addresses, patient_failures}
use Rattle.rly_station.specs.Warnings.{KnownFailures, none_yet}
use Rattle.rly_station.specs.declared.warning.SystemCall.TheVariants.{Send}
use Rattle.rly_link_udp.specs.declared.clock_watch.Reading.{Reading}
use Rattle.rly_link_udp.specs.declared.folder_watch.FolderPath.{FolderPath}
use Rattle.rly_link_udp.specs.declared.folder_watch.FolderWatch.{FolderWatch}
use Rattle.rly_link_udp.specs.declared.link_reorder.LinkReorder.{LinkReorder}
use Rattle.rly_link_udp.specs.declared.socket_link.SocketLink.{SocketLink}
use Rattle.rly_link_udp.specs.declared.wall_clock.WallClock.{WallClock}

-- the receiver of the first peer
abbrev pub is_first : Worker → Bool
is_first (worker.Receiver peer) = peer.0 == 1
is_first (worker.Sender hop) = false

-- The longest wait of a worker, in microseconds, if it has one: ten milliseconds if its turns are bounded, and else a second
-- if it watches the wall clock.
abbrev pub longest_wait : Worker → ℕ → Option ℕ
longest_wait w turns = if nat_lt 0 turns then Some 10000 else (if is_first w then Some 1000000 else None)

-- and of its waits at a folder that have an end, since something there is to be tried again: a second for a peer's
abbrev pub longest_until : Worker → Option ℕ
longest_until (worker.Receiver peer) = Some 1000000
longest_until (worker.Sender hop) = None

-- a link at a socket: its addresses, keys and reorder buffer, its failed sends so far, the owner of its wrong tags, and the log
-- of what stops it
pub record SocketDuty : Type 0 where
  pub addresses : Option Endpoints
  pub keys : Option Keys
  pub keeps : LinkReorder
  pub failures : Option KnownFailures
  pub tags : Worker
  pub log : LinkView

abbrev pub reorder_of_link : {C : Type 0} → SocketLink C → LinkReorder
reorder_of_link l = record { own = l.link.own; peer = l.link.peer; early = l.link.early }

abbrev pub socket_duty : {C : Type 0} → SocketLink C → SocketDuty
socket_duty l = record {
  addresses = patient_addresses (link_below l.link.link);
  keys = keys_over l.link.link;
  keeps = reorder_of_link l;
  failures = patient_failures (link_below l.link.link);
  tags = l.wrong_tags.worker;
  log = link_view l.log;
}

-- the station of a plan
abbrev pub own_station : ContactPlan → StationId
own_station plan = record { 0 = plan.station }

-- of a worker of a plan's station whose neighbour is another, over a socket with these addresses and failed sends, with the key
-- if there is one, and this maximum length of a buffered packet: it warns of its own link, of which nothing came yet
abbrev pub layers_duty : Worker → ContactPlan → (peer : StationId) → Option Endpoints → Option KnownFailures → Option Keys
    → (longest : ℕ) → SocketDuty
layers_duty w plan peer addresses failures keys longest = record {
  addresses = addresses;
  keys = keys;
  keeps = reorder_for (own_station plan) peer longest w;
  failures = failures;
  tags = w;
  log = new_link_view w (own_station plan) peer (is_none keys) (back_routes plan w peer);
}

-- the same over a socket at these addresses, of which no send failed yet
abbrev pub socket_duty_of : Worker → ContactPlan → (peer : StationId) → Endpoints → Option Keys → (longest : ℕ) → SocketDuty
socket_duty_of w plan peer addresses keys longest =
    layers_duty w plan peer (Some addresses) (Some (none_yet (Send w))) keys longest

-- whether a clock watches the wall clock, with the last readings
pub record ClockDuty : Type 0 where
  pub watches : Bool
  pub before : Option Reading

abbrev pub clock_duty : {C : Type 0} → WallClock C → ClockDuty
clock_duty turn = record { watches = is_some turn.watch; before = option_and_then (λ w. w.before) turn.watch }

-- the receiver of the first peer watches it
abbrev pub clock_duty_of : Worker → ClockDuty
clock_duty_of w = record { watches = is_first w; before = None }

-- the folders that a clock watches, with the times of the last looks
abbrev pub folders_in : Option FolderWatch → List (Worker × List ℕ × Option ℕ × Option ℕ)
folders_in None = []
folders_in (Some watch) = map seen_of watch.folders.items

abbrev pub folders_of : {C : Type 0} → WallClock C → List (Worker × List ℕ × Option ℕ × Option ℕ)
folders_of turn = folders_in turn.folders

-- that of the receiver of the first peer watches all
abbrev pub folders_watched : Worker → List FolderPath → List (Worker × List ℕ × Option ℕ × Option ℕ)
folders_watched w folders = if is_first w then map (λ f. unseen (path_of f)) folders else []
