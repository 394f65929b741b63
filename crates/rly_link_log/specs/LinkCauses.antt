-- What the packets of a link show of what stops it (docs/COMMANDS.md, "rly serve").
use Rattle.std.specs.Prelude.{ℕ, ◌-◌, nat_lt, ◌&&◌, if◌then◌else◌, Bool, List, length, take, Option, Some, None, option_map, option_and_then}
use Rattle.std.specs.Option.{is_none}
use Rattle.rly_hop.specs.MessageReads.{first_fault}
use Rattle.rly_hop.specs.declared.message.StationId.{StationId}
use Rattle.rly_link_log.specs.BackRoutes.{back_hop}
use Rattle.rly_link_log.specs.declared.back_routes.BackRoute.{BackRoute}
use Rattle.rly_link_log.specs.declared.seen.Seen.{Seen}
use Rattle.rly_link_log.specs.declared.seen.Seen.TheVariants.{Custody, Data, Heard, Other, Refused, Strange}
use Rattle.rly_link_log.specs.declared.seen.SeenData.{SeenData}
use Rattle.rly_station.specs.declared.link_cause.LinkCause.{LinkCause}
use Rattle.rly_station.specs.declared.link_cause.LinkCause.TheVariants.{IsRefused, LedBack, OtherStations, Tagged}

-- of a Data: that the route of its destination leads back to the peer. Data 0 is no datagram
abbrev pub back_cause_at : StationId → List BackRoute → (number destination : ℕ) → Option LinkCause
back_cause_at peer backs number destination =
    option_map (λ hop. LedBack destination peer.0 hop number) (if nat_lt 0 number then back_hop backs destination else None)

abbrev pub back_cause : StationId → List BackRoute → SeenData → Option LinkCause
back_cause peer backs datum = option_and_then (back_cause_at peer backs datum.number) datum.destination

-- of a packet that is no message, on a link without a key: that it has a tag
abbrev pub fault_cause : (is_open : Bool) → List ℕ → Option LinkCause
fault_cause is_open packet =
    if is_open && is_none (first_fault (take (length packet - 16) packet)) then Some Tagged else None

-- what a packet shows that was heard by a link without a key, or with one, with these routes that lead back
abbrev pub heard_cause : (is_open : Bool) → (own peer : StationId) → List BackRoute → List ℕ → Seen → Option LinkCause
heard_cause is_open own peer backs packet (Data datum) = back_cause peer backs datum
heard_cause is_open own peer backs packet (Custody last) = None
heard_cause is_open own peer backs packet (Refused number refusal) = Some (IsRefused peer.0 number refusal)
heard_cause is_open own peer backs packet (Heard last bits) = None
heard_cause is_open own peer backs packet (Strange from to) = Some (OtherStations from to peer.0 own.0)
heard_cause is_open own peer backs packet Other = fault_cause is_open packet
