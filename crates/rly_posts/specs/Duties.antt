-- The workers of a plan, and the duty of each.
use Rattle.std.specs.Prelude.{◌≡◌, ℕ, List, map, option_and_then, string_bytes, Option, None, Some}
use Rattle.std.specs.Option.{option_map}
use Rattle.rly_hop.specs.declared.message.StationId.{StationId}
use Rattle.rly_link.specs.declared.post.Post.{Post}
use Rattle.rly_link.specs.declared.turn.Worker.{Worker}
use Rattle.rly_link.specs.declared.turn.Worker.TheVariants as worker
use Rattle.rly_link_udp.specs.LinkDuties.{ClockDuty, SocketDuty, clock_duty, clock_duty_of, socket_duty, socket_duty_of}
use Rattle.rly_link_udp.specs.WallClock.{turns_left}
use Rattle.rly_link_udp.specs.declared.sender_waker.SenderWaker.{SenderWaker}
use Rattle.rly_link_udp.specs.declared.wall_clock.WallClock.{WallClock}
use Rattle.rly_plan.specs.ContactPlan.{ContactPlan}
use Rattle.rly_plan.specs.declared.far_end.FarEnd.{FarEnd}
use Rattle.rly_plan.specs.declared.far_end.FarEnd.TheVariants as far
use Rattle.rly_plan.specs.declared.far_end.FolderEnd.{FolderEnd}
use Rattle.rly_plan.specs.declared.neighbour.Neighbour.{Neighbour}
use Rattle.rly_posts.specs.Folders.{IncomingDuty, OutgoingDuty, incoming_duty, incoming_duty_of, outgoing_duty, outgoing_duty_of}
use Rattle.rly_posts.specs.Neighbour.{refusal_of}
use Rattle.rly_posts.specs.declared.neighbour_link.NeighbourLink.{NeighbourLink}
use Rattle.rly_posts.specs.declared.neighbour_link.NeighbourLink.TheVariants as link
use Rattle.rly_station.specs.Workers.{neighbour_of}
use Rattle.rly_station.specs.declared.address_fault.EndFault.{EndFault}
use Rattle.rly_station.specs.declared.plan_keys.KeyedWorker.{KeyedWorker}

-- a link, by its kind
pub data LinkDuty : Type 0 where
  AtSocket : SocketDuty → LinkDuty
  FromFolder : IncomingDuty → LinkDuty
  ToFolder : OutgoingDuty → LinkDuty

abbrev pub link_duty : {C : Type 0} → NeighbourLink C → LinkDuty
link_duty (link.Socket l) = AtSocket (socket_duty l)
link_duty (link.Incoming l) = FromFolder (incoming_duty l)
link_duty (link.Outgoing l) = ToFolder (outgoing_duty l)

-- the link of a worker to the folder at a path, which plays the neighbour of this number
abbrev pub folder_duty_of : ContactPlan → (longest turns : ℕ) → Worker → StationId → FolderEnd → List ℕ → LinkDuty
folder_duty_of plan longest turns (worker.Receiver id) peer end path =
    FromFolder (incoming_duty_of plan longest turns (worker.Receiver id) peer end path)
folder_duty_of plan longest turns (worker.Sender id) peer end path =
    ToFolder (outgoing_duty_of plan turns (worker.Sender id) peer end path)

abbrev pub neighbour_station : Neighbour → StationId
neighbour_station n = record { 0 = n.station }

-- the link of a worker to a neighbour, with its key or the path of its folder
abbrev pub far_duty_of : ContactPlan → (longest turns : ℕ) → KeyedWorker → StationId → FarEnd → Option LinkDuty
far_duty_of plan longest turns keyed peer (far.Socket s) =
    Some (AtSocket (socket_duty_of keyed.worker plan peer s.addresses (option_map (λ k. k.keys) keyed.key) longest))
far_duty_of plan longest turns keyed peer (far.Folder end) =
    option_map (λ path. folder_duty_of plan longest turns keyed.worker peer end (string_bytes path)) keyed.folder

abbrev pub link_duty_at : ContactPlan → (longest turns : ℕ) → KeyedWorker → Neighbour → Option LinkDuty
link_duty_at plan longest turns keyed n = far_duty_of plan longest turns keyed (neighbour_station n) n.far

abbrev pub link_duty_of : ContactPlan → (longest turns : ℕ) → KeyedWorker → Option LinkDuty
link_duty_of plan longest turns keyed =
    option_and_then (link_duty_at plan longest turns keyed) (neighbour_of plan keyed.worker)

-- a worker, its link, the number of its turns, and its clock
pub record Duty : Type 0 where
  pub worker : Worker
  pub link : Option LinkDuty
  pub left : Option ℕ
  pub clock : ClockDuty

-- a worker at a link that is, or wraps, one to its neighbour
abbrev pub PostOver : Type 0 → Type 0 → Type 0
PostOver L C = Post L (WallClock C) SenderWaker

-- a worker at the link that the plan names
abbrev pub StationPost : Type 0 → Type 0
StationPost C = PostOver (NeighbourLink C) C

-- its duty
abbrev pub duty_over : {L C : Type 0} → (L → NeighbourLink C) → PostOver L C → Duty
duty_over below post = record {
  worker = post.worker;
  link = Some (link_duty (below post.link));
  left = post.turn.left;
  clock = clock_duty post.turn;
}

-- why a post's link wasn't open at the start, if it wasn't
abbrev pub refusal_at : {C : Type 0} → StationPost C → Option EndFault
refusal_at post = refusal_of post.link

abbrev pub IsOpened : {C : Type 0} → StationPost C → Type 0
IsOpened post = refusal_at post ≡ None

abbrev pub duty_at : {C : Type 0} → StationPost C → Duty
duty_at post = duty_over (λ l. l) post

-- the duty of a worker by a plan and its keys and folders, with this maximum length of a message and this many turns
abbrev pub duty_of : ContactPlan → (longest turns : ℕ) → KeyedWorker → Duty
duty_of plan longest turns keyed = record {
  worker = keyed.worker;
  link = link_duty_of plan longest turns keyed;
  left = turns_left turns;
  clock = clock_duty_of keyed.worker;
}

-- the duties of all workers
abbrev pub duties : ContactPlan → List KeyedWorker → (longest turns : ℕ) → List Duty
duties plan links longest turns = map (duty_of plan longest turns) links
