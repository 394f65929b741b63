-- Two relays, an upper one that sends datagrams to a lower one, and the packets between them. Packets may be lost,
-- duplicated and reordered; sends and devices may fail; either end may crash.
use Rattle.std.specs.Prelude.{ℕ, nat_le, Bool, true, if◌then◌else◌, Option, Some, None, IsTrue}
use Rattle.std.specs.Prelude.{List, [], ◌∷◌, ◌++◌, length, replicate, slice_get, slice_set}
use Rattle.rly_core.specs.declared.ids.HopId.{HopId}
use Rattle.rly_core.specs.declared.ids.PeerId.{PeerId}
use Rattle.rly_core.specs.declared.params.Params.{Params}
use Rattle.rly_hop.specs.declared.message.Message.{Message}
use Rattle.rly_hop.specs.declared.message.StationId.{StationId}
use Rattle.rly_hop.specs.declared.receiving.event.InEvent.TheVariants as in_event
use Rattle.rly_hop.specs.declared.sending.event.OutEvent.TheVariants as out_event
use Rattle.rly_hop.specs.Receiver.{Receiver}
use Rattle.rly_hop.specs.Receiving.{ReceivingResult, receiver, receiving_step}
use Rattle.rly_hop.specs.Sender.{Sender}
use Rattle.rly_hop.specs.Sending.{SendingResult, sender, sending_step}
use Rattle.rly_machine.specs.declared.command.Ask.{Ask}
use Rattle.rly_machine.specs.declared.command.Ask.TheVariants.{Command, Query}
use Rattle.rly_machine.specs.declared.command.Command.TheVariants as command
use Rattle.rly_machine.specs.declared.command.Query.TheVariants as query
use Rattle.rly_machine.specs.State.{has_hop, has_peer, hop_at, new_state}
use Rattle.rly_world.specs.PairCores.{is_for_receiver, is_for_sender, receiver_asks, receiver_sends}
use Rattle.rly_world.specs.PairCores.{sender_asks, sender_event, sender_sends, take_answer}
use Rattle.rly_world.specs.PairEnd.{End, CallFate, Replied, durable_commands, new_end, state_of}
use Rattle.rly_world.specs.PairEnd.{with_asked, with_crash, with_made, with_other, end_after_answer}
use Rattle.rly_world.specs.PairPayloads.{Numbered, picked_payloads, taken_payloads}

-- the setup of two relays
pub record PairSetup : Type 0 where
  -- the parameters of their spools
  pub upper_params : Params
  pub lower_params : Params
  -- their stations
  pub upper : StationId
  pub lower : StationId
  -- the upper's hop that leads to the lower, and its window
  pub hop : HopId
  pub window : ℕ
  -- the lower's peer that is the upper, and its number of receiving cores
  pub peer : PeerId
  pub receivers : ℕ

-- that hop and that peer exist
pub record IsPair (setup : PairSetup) : Type 0 where
  pub hop : IsTrue (has_hop (new_state {P = List ℕ} setup.upper_params) setup.hop)
  pub peer : IsTrue (has_peer (new_state {P = List ℕ} setup.lower_params) setup.peer)

-- two relays, with every packet that either sent, in the order of sending
pub record PairWorld : Type 0 where
  pub setup : PairSetup
  pub upper : End
  pub sender : Sender
  pub lower : End
  pub receivers : List Receiver
  pub packets : List (Message (List ℕ))

-- the cores as they begin
abbrev pub new_sender : PairSetup → Sender
new_sender setup = sender setup.upper setup.lower setup.window

abbrev pub new_receivers : PairSetup → List Receiver
new_receivers setup = replicate setup.receivers (receiver setup.lower setup.upper)

-- both ends at the start: no command was accepted, acknowledged or sent
abbrev pub pair_start : PairSetup → PairWorld
pair_start setup = record {
  setup = setup;
  upper = new_end setup.upper_params;
  sender = new_sender setup;
  lower = new_end setup.lower_params;
  receivers = new_receivers setup;
  packets = [];
}

-- the events. A lost packet is one that never arrives.
pub data PairEvent : Type 0 where
  -- the sending core runs, at this time of the hop's link clock; or it times out
  Turns : (is_open : Bool) (moment : ℕ) → PairEvent
  Timeout : PairEvent
  -- a payload is fetched for the sending core before its request, for example when the payloads of a window are
  -- requested together
  FetchesAhead : (number : ℕ) → PairEvent
  -- a datagram is picked for the sending core before its request, at this time of the hop's link clock, for example
  -- when several Picks are requested together, or with a Release
  PicksAhead : (moment : ℕ) → PairEvent
  -- the packet with this index arrives at the upper; or at the lower, at this core, which takes it for this hop with
  -- this stamp
  UpperHears : (packet : ℕ) → PairEvent
  LowerHears : (packet core : ℕ) (hop : HopId) (stamp : ℕ) → PairEvent
  -- the first waiting call is made
  UpperMakes : (outcome : CallFate) → PairEvent
  LowerMakes : (outcome : CallFate) → PairEvent
  -- the first call that was made gets its reply; the core's message in return goes out, or the send fails
  UpperAnswers : (is_sent : Bool) → PairEvent
  LowerAnswers : (is_sent : Bool) → PairEvent
  -- a call of another client is made, with an immediate reply or none
  UpperServes : (ask : Ask) (outcome : CallFate) (is_answered : Bool) → PairEvent
  LowerServes : (ask : Ask) (outcome : CallFate) (is_answered : Bool) → PairEvent
  -- a crash leaves this many accepted commands; the relay opens again, or doesn't
  UpperCrashes : (kept : ℕ) (opens : Bool) → PairEvent
  LowerCrashes : (kept : ℕ) (opens : Bool) → PairEvent

-- a message is sent, unless the send fails
abbrev pub unless_failed : Bool → List (Message (List ℕ)) → List (Message (List ℕ))
unless_failed is_sent messages = if is_sent then messages else []

-- the effect of the sending core's action on an event: its call waits, its message is among the packets
abbrev pub with_sender : PairWorld → ℕ → Bool → SendingResult → PairWorld
with_sender w moment is_sent result = record w {
  upper = with_asked w.upper 0 (sender_asks w.setup.hop moment result.1);
  sender = result.0;
  packets = w.packets ++ unless_failed is_sent (sender_sends result.1);
}

-- the same for a receiving core
abbrev pub with_receiver : PairWorld → ℕ → HopId → ℕ → Bool → ReceivingResult → PairWorld
with_receiver w core hop stamp is_sent result = record w {
  lower = with_asked w.lower core (receiver_asks w.setup.peer hop stamp result.1);
  receivers = slice_set w.receivers core result.0;
  packets = w.packets ++ unless_failed is_sent (receiver_sends result.1);
}

-- a packet arrives, if it was sent and the core exists
abbrev pub upper_hears : PairWorld → Option (Message (List ℕ)) → PairWorld
upper_hears w (Some message) = with_sender w 0 true (sending_step w.sender (out_event.Heard message))
upper_hears w None = w

abbrev pub lower_hears : PairWorld → ℕ → HopId → ℕ → Option Receiver → Option (Message (List ℕ)) → PairWorld
lower_hears w core hop stamp (Some r) (Some message) =
    with_receiver w core hop stamp true (receiving_step r (in_event.Heard message))
lower_hears w core hop stamp (Some r) None = w
lower_hears w core hop stamp None message = w

-- the first call that was made gets its reply, if there is one
abbrev pub upper_answers : PairWorld → Bool → List Replied → PairWorld
upper_answers w is_sent [] = w
upper_answers w is_sent (r ∷ rest) =
    with_sender (record w { upper = end_after_answer (record w.upper { replied = rest }) r.reply r.position }) 0 is_sent
    (sending_step w.sender (sender_event r.call.ask r.reply))

abbrev pub receiver_answered : PairWorld → ℕ → Bool → Replied → Option Receiver → PairWorld
receiver_answered w core is_sent r None = w
receiver_answered w core is_sent r (Some it) =
    with_receiver w core (record { 0 = 0 }) 0 is_sent (receiving_step it (in_event.Answered (take_answer r.reply)))

abbrev pub lower_answers : PairWorld → Bool → List Replied → PairWorld
lower_answers w is_sent [] = w
lower_answers w is_sent (r ∷ rest) =
    receiver_answered (record w { lower = end_after_answer (record w.lower { replied = rest }) r.reply r.position })
    r.call.core is_sent r (slice_get w.receivers r.call.core)

-- the effect of an event on two relays. An impossible event changes nothing: if no call waits, if the packet was never
-- sent, if a failed device would work, if an allocation would fail for a request that needs none, if a crash would
-- remove an acknowledged command, or if another client would make a core's call.
abbrev pub pair_step : PairWorld → PairEvent → PairWorld
pair_step w (Turns is_open moment) = with_sender w moment true (sending_step w.sender (out_event.Turn is_open))
pair_step w Timeout = with_sender w 0 true (sending_step w.sender out_event.Timeout)
pair_step w (FetchesAhead number) =
    record w { upper = with_asked w.upper 0 (Query (query.Fetch w.setup.hop number) ∷ []) }
pair_step w (PicksAhead moment) =
    record w { upper = with_asked w.upper 0 (Command (command.Pick w.setup.hop moment) ∷ []) }
pair_step w (UpperHears packet) = upper_hears w (slice_get w.packets packet)
pair_step w (LowerHears packet core hop stamp) =
    lower_hears w core hop stamp (slice_get w.receivers core) (slice_get w.packets packet)
pair_step w (UpperMakes outcome) = record w { upper = with_made w.upper outcome w.upper.asked }
pair_step w (LowerMakes outcome) = record w { lower = with_made w.lower outcome w.lower.asked }
pair_step w (UpperAnswers is_sent) = upper_answers w is_sent w.upper.replied
pair_step w (LowerAnswers is_sent) = lower_answers w is_sent w.lower.replied
pair_step w (UpperServes ask outcome is_answered) =
    if is_for_sender w.setup.hop ask then w else record w { upper = with_other w.upper ask outcome is_answered }
pair_step w (LowerServes ask outcome is_answered) =
    if is_for_receiver w.setup.peer ask then w else record w { lower = with_other w.lower ask outcome is_answered }
pair_step w (UpperCrashes kept opens) =
    if nat_le w.upper.told kept
    then record w { upper = with_crash w.upper kept opens; sender = new_sender w.setup } else w
pair_step w (LowerCrashes kept opens) =
    if nat_le w.lower.told kept
    then record w { lower = with_crash w.lower kept opens; receivers = new_receivers w.setup } else w

-- two relays after a list of events
abbrev pub pair_after : PairWorld → List PairEvent → PairWorld
pair_after w [] = w
pair_after w (event ∷ events) = pair_after (pair_step w event) events

-- the datagrams that the upper has durably picked for the lower
abbrev pub lastingly_picked : PairWorld → List (Numbered (List ℕ))
lastingly_picked w = picked_payloads length w.setup.hop (new_state w.upper.params) (durable_commands w.upper)

-- the datagrams that the lower has taken from the upper: all of them; and the durable ones
abbrev pub now_taken : PairWorld → List (Numbered (List ℕ))
now_taken w = taken_payloads length w.setup.peer (new_state w.lower.params) w.lower.accepted

abbrev pub lastingly_taken : PairWorld → List (Numbered (List ℕ))
lastingly_taken w = taken_payloads length w.setup.peer (new_state w.lower.params) (durable_commands w.lower)

-- the number of datagrams that the upper has released to the lower
abbrev pub released_count : PairWorld → ℕ
released_count w = (hop_at (state_of w.upper) w.setup.hop).released
