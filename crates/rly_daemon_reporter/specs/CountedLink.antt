-- A link with a neighbour that counts its packets (docs/reference/DEFINITIONS.md, "Reports").
use Rattle.std.specs.Prelude.{ℕ, List, [], ◌∷◌, fold, map, Option, Some, None}
use Rattle.http_server.specs.declared.log.Log.{Log}
use Rattle.rly_hop.specs.declared.message.StationId.{StationId}
use Rattle.rly_daemon_report.specs.Counts.{no_counts}
use Rattle.rly_daemon_report.specs.HopCounts.{no_hop_counts}
use Rattle.rly_daemon_report.specs.LinkCounts.{link_after_heard, link_after_sent}
use Rattle.rly_daemon_report.specs.declared.link_counts.LinkCounts.{LinkCounts}
use Rattle.rly_daemon_report.specs.declared.link_counts.LinkCounts.TheVariants.{Peer, Hop}
use Rattle.rly_link.specs.Memory.{log_bytes}
use Rattle.rly_link.specs.declared.turn.Worker.{Worker}
use Rattle.rly_link.specs.declared.turn.Worker.TheVariants.{Receiver, Sender}

-- a packet received, with the moment, or one sent
abbrev pub PacketEvent : Type 0
PacketEvent = List ℕ × Option ℕ

abbrev pub events_in : Log (Log ℕ (Unit {0})) (Option ℕ) → List PacketEvent
events_in log = map (λ e. (log_bytes e.0, e.1)) log.items

-- the model: the link below, its worker, this station, the neighbour's, and the packets received and sent, in order
pub record CountedView (L : Type 0) : Type 0 where
  pub link : L
  pub worker : Worker
  pub own : StationId
  pub station : StationId
  pub events : List PacketEvent

-- before its first packet
abbrev pub new_counted : {L : Type 0} → L → Worker → StationId → StationId → CountedView L
new_counted link worker own station =
    record { link = link; worker = worker; own = own; station = station; events = [] }

-- the event of a receive at a moment: the packet that it returned, if any
abbrev pub heard_then : ℕ → Option (List ℕ) → List PacketEvent
heard_then moment None = []
heard_then moment (Some packet) = (packet, Some moment) ∷ []

-- the counts before all events: a receiver's link is a peer's, and a sender's link a hop's
abbrev pub first_counts : Worker → LinkCounts
first_counts (Receiver peer) = Peer no_counts
first_counts (Sender hop) = Hop no_hop_counts

-- the counts after one of these
abbrev pub after_event : StationId → StationId → LinkCounts → PacketEvent → LinkCounts
after_event own station c (packet, Some moment) = link_after_heard own station moment packet c
after_event own station c (packet, None) = link_after_sent own station packet c

-- the counts after all of them
abbrev pub counts_of : Worker → StationId → StationId → List PacketEvent → LinkCounts
counts_of worker own station events = fold (after_event own station) (first_counts worker) events
