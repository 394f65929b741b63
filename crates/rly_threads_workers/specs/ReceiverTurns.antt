-- A receiving worker, turn by turn (docs/PROTOCOL.md, "The receiving core").
use Rattle.std.specs.Prelude.{ℕ, ◌==◌, max, List, [], ◌∷◌, ◌++◌, map, take, length, nat_lt, Bool, true, false, ◌&&◌}
use Rattle.std.specs.Prelude.{◌||◌, if◌then◌else◌, Option, Some, None, unwrap_or, Ok, Err}
use Rattle.std.specs.List.{filter_map, flat_map, reduce, zip}
use Rattle.rly_core.specs.declared.ids.HopId.{HopId}
use Rattle.rly_core.specs.declared.ids.PeerId.{PeerId}
use Rattle.rly_hop.specs.declared.message.Message.{Message}
use Rattle.rly_hop.specs.declared.message.Message.TheVariants as message
use Rattle.rly_hop.specs.declared.message.StationId.{StationId}
use Rattle.rly_hop.specs.declared.receiving.event.InAction.{InAction}
use Rattle.rly_hop.specs.declared.receiving.event.InAction.TheVariants.{Take, Send}
use Rattle.rly_hop.specs.declared.receiving.event.InEvent.{InEvent}
use Rattle.rly_hop.specs.declared.receiving.event.InEvent.TheVariants.{Heard, Answered, Lost}
use Rattle.rly_hop.specs.declared.receiving.event.TakeAnswer.{TakeAnswer}
use Rattle.rly_hop.specs.declared.receiving.event.TakeAnswer.TheVariants as answer
use Rattle.rly_hop.specs.Receiver.{Receiver}
use Rattle.rly_hop.specs.Receiving.{ReceivingResult, receiving_step}
use Rattle.rly_machine.specs.declared.call.Answer.{Answer}
use Rattle.rly_machine.specs.declared.command.Ask.{Ask}
use Rattle.rly_machine.specs.declared.command.Ask.TheVariants.{Command}
use Rattle.rly_machine.specs.declared.command.Command.TheVariants as command
use Rattle.rly_machine.specs.declared.reply.Reply.{Reply}
use Rattle.rly_machine.specs.declared.reply.Reply.TheVariants as reply
use Rattle.rly_plan.specs.ContactPlan.{ContactPlan, hop_for, link}
use Rattle.rly_link.specs.declared.turn.Go.{Go}
use Rattle.rly_link.specs.declared.turn.Point.TheVariants as point
use Rattle.rly_link.specs.declared.turn.Worker.TheVariants as worker
use Rattle.rly_threads_workers.specs.DeskExchanges.{Asked, BatchOutcome}
use Rattle.rly_link.specs.LinkHistory.{Handed, Hearing, new_hearing, message_in}
use Rattle.rly_link.specs.declared.link.Sleep.TheVariants as sleep
use Rattle.rly_threads_workers.specs.Turns.{Done, packets_of, with_start, woken_if}

-- its peer, and the plan for the routes
pub record ReceiverWorker : Type 0 where
  pub plan : ContactPlan
  pub peer : PeerId

abbrev pub receiver_worker : ContactPlan → PeerId → ReceiverWorker
receiver_worker plan peer = record { plan = plan; peer = peer }

-- the hop of a payload that the peer's station gives, by the routing rule: hop 0 if the plan has none for it
abbrev pub hop_of_payload : ContactPlan → StationId → List ℕ → HopId
hop_of_payload plan station payload = unwrap_or (hop_for plan station.0 payload) (record { 0 = 0 })

-- the command that stores a datagram, stamped by the link clock of its hop, with its limit
abbrev pub take_ask : ReceiverWorker → (now number : ℕ) → HopId → (limit : ℕ) → List ℕ → Ask
take_ask w now number hop limit payload =
    Command (command.Take w.peer number hop (link w.plan hop now) limit payload)

-- the core's answer for the reply to its Take
abbrev pub answer_in : Reply → TakeAnswer
answer_in (reply.Taken id) = answer.Taken
answer_in (reply.Already last) = answer.Already last
answer_in (reply.Refused refusal) = answer.Refused refusal
answer_in (reply.Picked number id expired dropped) = answer.Other
answer_in (reply.Nothing expired) = answer.Other
answer_in (reply.Released count) = answer.Other
answer_in reply.Unchanged = answer.Other
answer_in (reply.Bytes payload limit) = answer.Other
answer_in (reply.WindowIs first next) = answer.Other
answer_in (reply.Shown status) = answer.Other

-- the core's event for the reply to its Take
abbrev pub receiver_event : Reply → InEvent (List ℕ)
receiver_event reply = Answered (answer_in reply)

-- whether a datagram was stored
abbrev pub is_taken : InEvent (List ℕ) → Bool
is_taken (Answered answer.Taken) = true
is_taken (Answered (answer.Already last)) = false
is_taken (Answered (answer.Refused refusal)) = false
is_taken (Answered answer.Other) = false
is_taken (Heard m) = false
is_taken Lost = false

-- the core after a message, if one was received
abbrev pub receiver_on_hearing : Receiver → Option (Message (List ℕ)) → ReceivingResult
receiver_on_hearing r None = (r, None)
receiver_on_hearing r (Some m) = receiving_step r (Heard m)

-- the number, the limit and the payload of a Take action
abbrev pub datagram_in : Option (InAction (List ℕ)) → Option (ℕ × ℕ × List ℕ)
datagram_in (Some (Take number limit payload)) = Some (number, limit, payload)
datagram_in (Some (Send m)) = None
datagram_in None = None

-- a received packet, the tick after it, and whether memory was refused for its Take
pub record Arrival : Type 0 where
  pub packet : List ℕ
  pub heard : Go
  pub refused : Bool

-- The inputs of a receiving worker in a turn: the tick at its start; the packets received, in order; the tick after
-- the receive that returned none, if one did; the ticks before its Takes were submitted and after that; and their
-- outcomes, an answer to each or the error.
pub record Arrivals : Type 0 where
  pub start : Go
  pub packets : List Arrival
  pub quiet : Go
  pub before : Go
  pub outcome : BatchOutcome
  pub after : Go

-- The result of each receive and the tick after it: the worker receives until there is no packet, or until it has
-- the maximum.
abbrev pub receives : ℕ → List Arrival → Go → List (Option (List ℕ) × Go)
receives most packets quiet =
    map (λ a. (Some a.packet, a.heard)) packets ++ (if nat_lt (length packets) most then (None, quiet) ∷ [] else [])

-- the first receive waits, and the others don't
abbrev pub hearings : List (Option (List ℕ) × Go) → List Hearing
hearings [] = []
hearings (first ∷ others) = new_hearing sleep.Woken first.0 ∷ map (λ x. new_hearing sleep.No x.0) others

-- a Take that a core requested: that core, the hop of its datagram, and the ask
pub record NamedTake : Type 0 where
  pub core : Receiver
  pub hop : HopId
  pub ask : Ask

-- The Take isn't submitted if memory was refused for it: for its payload's bytes, so never for an empty one, or for
-- the lists of Takes, which grow only in a worker that takes one packet per turn.
abbrev pub lacks_memory : ℕ → List ℕ → Bool → Bool
lacks_memory most payload refused = refused && ((most == 1) || nat_lt 0 (length payload))

abbrev pub take_of : ReceiverWorker → StationId → ℕ → ℕ → Bool → Receiver → Option (ℕ × ℕ × List ℕ) → List NamedTake
take_of w station most now refused core None = []
take_of w station most now refused core (Some taken) =
    if lacks_memory most taken.2 refused then []
    else
    let hop = hop_of_payload w.plan station taken.2 in
    record { core = core; hop = hop; ask = take_ask w now taken.0 hop taken.1 taken.2 } ∷ []

-- the Take of a message at a moment, if it leads to one, for a core in this state, whose peer gave the message
abbrev pub wanted_by : ReceiverWorker → ℕ → Receiver → ℕ → Bool → Option (Message (List ℕ)) → List NamedTake
wanted_by w most r now refused m =
    let heard = receiver_on_hearing r m in take_of w r.peer most now refused heard.0 (datagram_in heard.1)

-- the Take of a packet, at the moment after it was received
abbrev pub takes_of_packet : ReceiverWorker → ℕ → Receiver → Arrival → List NamedTake
takes_of_packet w most r a = wanted_by w most r a.heard.now a.refused (message_in (Some a.packet))

-- a core whose Take is pending, and the hop of that datagram
abbrev pub WaitingCore : Type 0
WaitingCore = Receiver × HopId

abbrev pub core_of_take : NamedTake → WaitingCore
core_of_take x = (x.core, x.hop)

-- each with its answer, in order: none if there are no answers
abbrev pub answers_to_cores : List WaitingCore → BatchOutcome → List (WaitingCore × Answer)
answers_to_cores waits (Ok answers) = zip waits answers
answers_to_cores waits (Err error) = []

-- the action of a core on the answer to its Take
abbrev pub action_on_answer : WaitingCore × Answer → Option (InAction (List ℕ))
action_on_answer x = (receiving_step x.0.0 (receiver_event x.1.reply)).1

-- the number of a custody action, if it is one
abbrev pub custody_in : Option (InAction (List ℕ)) → Option ℕ
custody_in (Some (Send (message.Custody from to last))) = Some last
custody_in (Some (Send (message.Data from to number limit payload))) = None
custody_in (Some (Send (message.Refused from to number refusal))) = None
custody_in (Some (Send (message.Heard from to last bits))) = None
custody_in (Some (Take number limit payload)) = None
custody_in None = None

-- the packets sent at once by an action: any message except a custody
abbrev pub refusal_packets : Option (InAction (List ℕ)) → List (List ℕ)
refusal_packets (Some (Send (message.Custody from to last))) = []
refusal_packets (Some (Send (message.Data from to number limit payload))) =
    packets_of (message.Data from to number limit payload)
refusal_packets (Some (Send (message.Refused from to number refusal))) =
    packets_of (message.Refused from to number refusal)
refusal_packets (Some (Send (message.Heard from to last bits))) = packets_of (message.Heard from to last bits)
refusal_packets (Some (Take number limit payload)) = []
refusal_packets None = []

-- the custody of this number, if there is one
abbrev pub custody_packets : Receiver → Option ℕ → List (List ℕ)
custody_packets r None = []
custody_packets r (Some last) = packets_of (message.Custody r.own r.peer last)

-- each refusal is sent, in order, and after them only the greatest custody
abbrev pub answers_sent : Receiver → List (WaitingCore × Answer) → List (List ℕ)
answers_sent r taken =
    flat_map (λ x. refusal_packets (action_on_answer x)) taken
    ++ custody_packets r (reduce max (filter_map (λ x. custody_in (action_on_answer x)) taken))

-- the worker wakes the hop's sender iff a datagram was stored, once for each
abbrev pub wakings : List (WaitingCore × Answer) → List HopId
wakings taken = flat_map (λ x. woken_if (is_taken (receiver_event x.1.reply)) x.0.1) taken

-- the Takes are submitted together; nothing is submitted if there is none
abbrev pub takes_asked : List NamedTake → BatchOutcome → List Asked
takes_asked [] outcome = []
takes_asked (first ∷ others) outcome = (map (λ x. x.ask) (first ∷ others), outcome) ∷ []

-- the ticks before and after they are submitted
abbrev pub around_takes : ReceiverWorker → List NamedTake → Go → Go → List Handed
around_takes w [] before after = []
around_takes w (first ∷ others) before after =
    (worker.Receiver w.peer, point.Call, before) ∷ (worker.Receiver w.peer, point.Answered, after) ∷ []

-- the worker's actions on the results of its receives and their Takes
abbrev pub takes_done : ReceiverWorker → Receiver → List (Option (List ℕ) × Go) → List NamedTake → Arrivals
    → Done Receiver
takes_done w r heard takes given =
    let taken = answers_to_cores (map core_of_take takes) given.outcome in record {
      core = r;
      heard = hearings heard;
      asked = takes_asked takes given.outcome;
      sent = answers_sent r taken;
      handed = map (λ x. (worker.Receiver w.peer, point.Heard, x.1)) heard
          ++ around_takes w takes given.before given.after;
      woken = wakings taken;
    }

-- The first half of a turn, of at most this many packets: it ends with the Takes to submit. Each packet gets a core of its
-- own, in this state.
abbrev pub receiver_requests : ReceiverWorker → (most : ℕ) → Receiver → List Arrival → List NamedTake
receiver_requests w most r packets = flat_map (takes_of_packet w most r) packets

-- One turn, after its start, of at most this many packets. Its second half begins with the outcome of its Takes.
abbrev pub receiver_done : ReceiverWorker → ℕ → Receiver → Arrivals → Done Receiver
receiver_done w most r given =
    let packets = take most given.packets in
    takes_done w r (receives most packets given.quiet) (receiver_requests w most r packets) given

-- one turn
abbrev pub receiver_turn : ReceiverWorker → ℕ → Receiver → Arrivals → Done Receiver
receiver_turn w most r given = with_start (worker.Receiver w.peer) given.start (receiver_done w most r given)
