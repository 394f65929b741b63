-- A sending worker, turn by turn (docs/PROTOCOL.md, "The sending core").
use Rattle.std.specs.Prelude.{ℕ, ◌+◌, ◌-◌, ◌^◌, ◌==◌, min, max, nat_le, nat_lt, List, [], ◌∷◌, ◌++◌, length, map, take, Bool, true}
use Rattle.std.specs.Prelude.{false, not, ◌||◌, ◌&&◌, if◌then◌else◌, fold, slice_index_or, Option, Some, None, is_some, option_map, Ok, Err}
use Rattle.std.specs.List.{cons_option, filter_map, range_with_len, zip}
use Rattle.rly_core.specs.declared.ids.HopId.{HopId}
use Rattle.rly_core.specs.declared.refusal.Refusal.TheVariants as refusal
use Rattle.rly_hop.specs.declared.sending.event.OutAction.{OutAction}
use Rattle.rly_hop.specs.declared.sending.event.OutAction.TheVariants as action
use Rattle.rly_hop.specs.declared.sending.event.OutEvent.{OutEvent}
use Rattle.rly_hop.specs.declared.sending.event.OutEvent.TheVariants as event
use Rattle.rly_hop.specs.Sending.{sending_step, turn_action}
use Rattle.rly_line.specs.declared.call_error.BatchError.{BatchError}
use Rattle.rly_line.specs.declared.call_error.BatchError.TheVariants as error
use Rattle.rly_machine.specs.declared.command.Ask.{Ask}
use Rattle.rly_machine.specs.declared.command.Ask.TheVariants.{Command, Query}
use Rattle.rly_machine.specs.declared.command.Command.TheVariants as command
use Rattle.rly_machine.specs.declared.command.Query.TheVariants as query
use Rattle.rly_machine.specs.declared.reply.Reply.{Reply}
use Rattle.rly_machine.specs.declared.reply.Reply.TheVariants as reply
use Rattle.rly_hop_pacing.specs.CongestionControl.{ControlView, repeats, spare_number, unsent_count}
use Rattle.rly_hop_pacing.specs.Moments.{sooner}
use Rattle.rly_hop_pacing.specs.NextMoments.{next_moment, next_timeout}
use Rattle.rly_hop_pacing.specs.Rates.{next_room, room_at}
use Rattle.rly_hop_pacing.specs.declared.rate.Bucket.{Bucket}
use Rattle.rly_link.specs.declared.link.Sleep.{Sleep}
use Rattle.rly_link.specs.declared.link.Sleep.TheVariants as sleep
use Rattle.rly_link.specs.declared.turn.Go.{Go}
use Rattle.rly_plan.specs.ContactPlan.{ContactPlan, edge_wait, is_open, link, next_change}
use Rattle.rly_threads_workers.specs.declared.sender_state.SenderState.{SenderState}
use Rattle.rly_link.specs.declared.turn.Worker.TheVariants as worker
use Rattle.rly_threads_workers.specs.DeskExchanges.{BatchOutcome}
use Rattle.rly_threads_workers.specs.SenderState.{action_on, control_on_answer, control_on_named, let_out, on_moment}
use Rattle.rly_threads_workers.specs.SenderState.{rate_after, send_room, sender_on_hearing, with_left}
use Rattle.rly_link.specs.LinkHistory.{message_in}
use Rattle.rly_threads_workers.specs.Turns.{Done, Given, Made, around_call, nothing_done}
use Rattle.rly_threads_workers.specs.Turns.{packets_of, with_hearings, with_start}

-- its hop, and the plan for the contacts of its link
pub record SenderWorker : Type 0 where
  pub plan : ContactPlan
  pub hop : HopId

abbrev pub sender_worker : ContactPlan → HopId → SenderWorker
sender_worker plan hop = record { plan = plan; hop = hop }

-- the state after a packet
abbrev pub sender_on_packet : SenderState → List ℕ → SenderState
sender_on_packet p packet = sender_on_hearing p (message_in (Some packet))

-- How many Picks are submitted with the release of all up to this number: at most as many as may be in flight after
-- it, and as may be sent at once after those in flight that weren't sent again yet.
abbrev pub picks_beside : ℕ → SenderState → ℕ → ℕ
picks_beside room p number =
    min p.picks (min (p.core.window - (p.core.next - (number + 1))) (room - unsent_count p.pace p.core.next))

-- How many calls are submitted together for the core's request, at most this many, if this many messages may be
-- sent: the Fetches of the flight from this number on, a Release and the Picks with it, and as many Picks as may
-- enter the flight. No more is fetched or picked than may be sent at once.
abbrev pub call_count : ℕ → ℕ → SenderState → OutAction (List ℕ) → ℕ
call_count most room p action.AskWindow = 1
call_count most room p (action.Release number) = min most (picks_beside room p number + 1)
call_count most room p (action.Fetch number) = min (min most room) (p.core.next - number)
call_count most room p action.Pick = min (min most (min room p.picks)) (p.core.window - (p.core.next - p.core.first))
call_count most room p (action.Send m) = 0

-- the same, of the core's request, if it has one, and if any call may be submitted
abbrev pub core_count : ℕ → ℕ → SenderState → Option (OutAction (List ℕ)) → ℕ
core_count most room p None = 0
core_count most room p (Some named) = if most == 0 then 0 else call_count most room p named

-- the call at an index among those for the core's request: the Fetch of a later number, a Pick after a Release, or the
-- same call again
abbrev pub core_call_at : OutAction (List ℕ) → ℕ → OutAction (List ℕ)
core_call_at action.AskWindow place = action.AskWindow
core_call_at (action.Release number) place = if place == 0 then action.Release number else action.Pick
core_call_at (action.Fetch number) place = action.Fetch (number + place)
core_call_at action.Pick place = action.Pick
core_call_at (action.Send m) place = action.Send m

-- The call at an index among those submitted together: first the Fetches of the numbers to send again, and then those
-- for the core's request.
abbrev pub call_at : List ℕ → OutAction (List ℕ) → ℕ → OutAction (List ℕ)
call_at again named place =
    if nat_lt place (length again) then action.Fetch (slice_index_or again place 0)
    else core_call_at named (place - length again)

-- this many calls that are submitted together, in order
abbrev pub calls_from : List ℕ → OutAction (List ℕ) → ℕ → List (OutAction (List ℕ))
calls_from again named count = map (call_at again named) (range_with_len 0 count)

-- the call that the core requests; without one, none of its calls is submitted
abbrev pub or_pick : Option (OutAction (List ℕ)) → OutAction (List ℕ)
or_pick None = action.Pick
or_pick (Some action.AskWindow) = action.AskWindow
or_pick (Some (action.Release number)) = action.Release number
or_pick (Some (action.Fetch number)) = action.Fetch number
or_pick (Some action.Pick) = action.Pick
or_pick (Some (action.Send m)) = action.Pick

-- the ask of a call
abbrev pub named_ask : SenderWorker → ℕ → OutAction (List ℕ) → Option Ask
named_ask w now action.AskWindow = Some (Query (query.Window w.hop))
named_ask w now (action.Release number) = Some (Command (command.Release w.hop number))
named_ask w now (action.Fetch number) = Some (Query (query.Fetch w.hop number))
named_ask w now action.Pick = Some (Command (command.Pick w.hop (link w.plan w.hop now)))
named_ask w now (action.Send m) = None

-- the core's event for a reply: a payload and its limit belong to the number that the core asked for
abbrev pub fetch_event : OutAction (List ℕ) → List ℕ → ℕ → OutEvent (List ℕ)
fetch_event (action.Fetch number) payload limit = event.Fetched number limit payload
fetch_event action.AskWindow payload limit = event.Other
fetch_event (action.Release number) payload limit = event.Other
fetch_event action.Pick payload limit = event.Other
fetch_event (action.Send m) payload limit = event.Other

abbrev pub event_in : OutAction (List ℕ) → Reply → OutEvent (List ℕ)
event_in named (reply.WindowIs first next) = event.WindowIs first next
event_in named (reply.Picked number id expired dropped) = event.Picked number
event_in named (reply.Nothing expired) = event.Nothing
event_in named (reply.Bytes payload limit) = fetch_event named payload limit
event_in named (reply.Released count) = event.Released
event_in named reply.Unchanged = event.Unchanged
event_in named (reply.Refused refusal) = event.Refused refusal
event_in named (reply.Taken id) = event.Other
event_in named (reply.Already last) = event.Other
event_in named (reply.Shown status) = event.Other

-- the core's event if there are no answers
abbrev pub error_event : BatchError → OutEvent (List ℕ)
error_event error.Closed = event.Refused refusal.Closed
error_event error.Lost = event.Refused refusal.Lost

-- the core's events for calls submitted together: one for each answer, in order, or one for the error
abbrev pub sender_events : List (OutAction (List ℕ)) → BatchOutcome → List (OutEvent (List ℕ))
sender_events calls (Ok answers) = map (λ x. event_in x.0 x.1.reply) (zip calls answers)
sender_events calls (Err error) = error_event error ∷ []

-- whether an answer says that there is nothing to pick, and whether it is another refusal
abbrev pub is_nothing : OutEvent (List ℕ) → Bool
is_nothing event.Nothing = true
is_nothing (event.WindowIs first next) = false
is_nothing (event.Picked number) = false
is_nothing event.Released = false
is_nothing (event.Fetched number limit payload) = false
is_nothing event.Unchanged = false
is_nothing (event.Refused refusal.Empty) = true
is_nothing (event.Refused _) = false
is_nothing event.Other = false
is_nothing event.Timeout = false
is_nothing (event.Heard m) = false
is_nothing (event.Turn in_contact) = false

abbrev pub is_refusal : OutEvent (List ℕ) → Bool
is_refusal (event.Refused refusal.Empty) = false
is_refusal (event.Refused _) = true
is_refusal event.Nothing = false
is_refusal (event.WindowIs first next) = false
is_refusal (event.Picked number) = false
is_refusal event.Released = false
is_refusal (event.Fetched number limit payload) = false
is_refusal event.Unchanged = false
is_refusal event.Other = false
is_refusal event.Timeout = false
is_refusal (event.Heard m) = false
is_refusal (event.Turn in_contact) = false

-- the packets of an action while a contact is open; none while it is closed
abbrev pub sender_packets : Bool → Option (OutAction (List ℕ)) → List (List ℕ)
sender_packets true (Some (action.Send m)) = packets_of m
sender_packets false (Some (action.Send m)) = []
sender_packets in_contact (Some action.AskWindow) = []
sender_packets in_contact (Some (action.Release number)) = []
sender_packets in_contact (Some (action.Fetch number)) = []
sender_packets in_contact (Some action.Pick) = []
sender_packets in_contact None = []

-- How many Picks may be submitted together after an answer: after a pick one more, 64 at most; 1 if there was
-- nothing to pick or a call was refused.
abbrev pub picks_after : ℕ → OutEvent (List ℕ) → ℕ
picks_after picks (event.Picked number) = min 64 (picks + 1)
picks_after picks event.Nothing = 1
picks_after picks (event.Refused refusal) = 1
picks_after picks (event.WindowIs first next) = picks
picks_after picks (event.Fetched number limit payload) = picks
picks_after picks event.Released = picks
picks_after picks event.Unchanged = picks
picks_after picks event.Other = picks
picks_after picks event.Timeout = picks
picks_after picks (event.Heard m) = picks
picks_after picks (event.Turn in_contact) = picks

-- the packets sent at a moment on this event of the core: those that it requests, or a repeat, if a contact is open
-- and the rate permits it
abbrev pub sent_on : Bool → ℕ → SenderState → OutEvent (List ℕ) → List (List ℕ)
sent_on in_contact at p told = let_out p.rate (sender_packets in_contact (action_on p.core told)) at

-- the core gets this event at a moment, and the message that it requests, or a repeat, is sent
abbrev pub after_out_event : Bool → ℕ → SenderState → OutEvent (List ℕ) → SenderState
after_out_event in_contact at p told = record {
  core = (sending_step p.core told).0;
  drained = p.drained || is_nothing told;
  failed = p.failed || is_refusal told;
  picks = picks_after p.picks told;
  pace = control_on_named (control_on_answer p.pace told) (action_on p.core told) at;
  rate = rate_after p.rate (sender_packets in_contact (action_on p.core told)) at;
  reports = p.reports;
}

-- the packets sent on these events of the core, in order
abbrev pub sender_sent : Bool → ℕ → SenderState → List (OutEvent (List ℕ)) → List (List ℕ)
sender_sent in_contact at p [] = []
sender_sent in_contact at p (told ∷ others) =
    sent_on in_contact at p told ++ sender_sent in_contact at (after_out_event in_contact at p told) others

-- The second half of a turn: the calls are submitted together. The core gets the answers, in order, and the messages that
-- it then requests are sent, if a contact is open by then.
abbrev pub sender_on_calls : SenderWorker → ℕ → Made → SenderState → List (OutAction (List ℕ)) → Done SenderState
sender_on_calls w now made p [] = nothing_done p
sender_on_calls w now made p (first ∷ others) =
    let told = sender_events (first ∷ others) made.outcome in
    let in_contact = is_open w.plan w.hop made.after.now in record {
      core = fold (after_out_event in_contact made.after.since) p told;
      heard = [];
      asked = (filter_map (named_ask w now) (first ∷ others), made.outcome) ∷ [];
      sent = sender_sent in_contact made.after.since p told;
      handed = around_call (worker.Sender w.hop) made;
      woken = [];
    }

-- whether the core would send something new if it might: not after a Pick for which there was nothing
abbrev pub wants_room : Bool → Option (OutAction (List ℕ)) → Bool
wants_room drained None = false
wants_room drained (Some action.Pick) = not drained
wants_room drained (Some (action.Fetch number)) = true
wants_room drained (Some action.AskWindow) = true
wants_room drained (Some (action.Release number)) = true
wants_room drained (Some (action.Send m)) = false

-- The next moment at which there is something to do, of the Timeout's and the pace's. If that is now, but the rate lets
-- nothing out: as soon as it does, or the Timeout comes.
abbrev pub held_back : Option Bucket → (at : ℕ) → (timeout moment : Option ℕ) → Option ℕ
held_back None at timeout moment = moment
held_back (Some b) at timeout None = None
held_back (Some b) at timeout (Some moment) =
    if nat_le moment at && (room_at b at == 0) then sooner timeout (Some (next_room b at)) else Some moment

-- the moment at which it has something to send, or a Timeout, if no packet comes
abbrev pub work_moment : SenderState → ℕ → Option ℕ
work_moment p at =
    held_back p.rate at (next_timeout p.pace at)
    (next_moment p.pace at (wants_room p.drained (turn_action p.core true)))

-- whether nothing waits, as far as it was told, and nothing is in flight
abbrev pub is_at_rest : SenderState → Bool
is_at_rest p = p.drained && p.core.first == p.core.next

-- the moment of the monotonic clock at which it looks at its contact again: never while it rests
abbrev pub edge_moment : SenderWorker → SenderState → Go → Option ℕ
edge_moment w p last =
    if is_at_rest p then None
    else option_map (λ wait. min (last.since + wait) (2 ^ 64 - 1)) (edge_wait w.plan w.hop last.now)

-- whether its contact began or ended since its last turn
abbrev pub has_changed : SenderWorker → SenderState → Go → Bool
has_changed w p last =
    if p.pace.is_open then not (is_open w.plan w.hop last.now) else is_open w.plan w.hop last.now

-- until a moment, at another one: not at all if it has come
abbrev pub sleep_until : (at : ℕ) → Option ℕ → Sleep
sleep_until at None = sleep.Woken
sleep_until at (Some moment) = if nat_le moment at then sleep.No else sleep.Until moment

-- How long a turn waits for its first packet, by the last tick: ten milliseconds after a call that was refused; not at
-- all if the core has a call to make in any case, or its contact has changed; else until it has something to do, or its
-- contact changes. While it rests, until it is woken.
abbrev pub sender_sleep : SenderWorker → SenderState → Go → Sleep
sender_sleep w p last =
    if p.failed then sleep.Until (min (last.since + 10000) (2 ^ 64 - 1))
    else (if is_some (turn_action p.core false) || has_changed w p last then sleep.No
    else sleep_until last.since (sooner (work_moment p last.since) (edge_moment w p last)))

-- how many numbers may be sent again in a turn of at most this many calls, so that one is left for the core
abbrev pub repeat_count : ℕ → ℕ → ℕ
repeat_count most room = min room (max (most - 1) 1)

-- The numbers that are sent again: those that are missing. If none is, perhaps another one.
abbrev pub again_numbers : ControlView → (room at : ℕ) → List ℕ → List ℕ
again_numbers pace room at [] = if nat_lt 0 room then cons_option (spare_number pace at) [] else []
again_numbers pace room at (first ∷ others) = first ∷ others

-- The calls for the numbers to send again and for the core's request, in order, if this many messages may be sent.
abbrev pub turn_calls : (most room : ℕ) → SenderState → List ℕ → Option (OutAction (List ℕ)) → List (OutAction (List ℕ))
turn_calls most room p again named =
    calls_from again (or_pick named) (length again + core_count (most - length again) (room - length again) p named)

-- the result of the first half of a turn: the state, and the calls to submit together, in order
pub record Requests : Type 0 where
  pub state : SenderState
  pub calls : List (OutAction (List ℕ))

-- The core's own turn at a moment, in which this many messages may be sent, those that are sent again first: if no more
-- may, its contact counts as closed.
abbrev pub core_requests : (most room at : ℕ) → SenderState → Requests
core_requests most room at p =
    let again = again_numbers p.pace room at (repeats p.pace (repeat_count most room) at) in
    let left = sending_step p.core (event.Turn (nat_lt (length again) room)) in
    let acting : SenderState = record p { core = left.0; drained = false; failed = false } in
    record { state = acting; calls = turn_calls most room acting again left.1 }

-- how much is left of its contact while it is open; None if it has no end
abbrev pub contact_left : SenderWorker → (now : ℕ) → Option ℕ
contact_left w now = option_map (λ change. change - now) (next_change w.plan w.hop now)

-- The first half of a turn, after its receives: it ends with the calls to submit. It uses the time of the tick after the
-- receives.
abbrev pub sender_requests : SenderWorker → (most : ℕ) → SenderState → (packets : List (List ℕ)) → (heard : Go) → Requests
sender_requests w most p packets heard =
    let heard_all = with_left (contact_left w heard.now) (fold sender_on_packet p packets) in
    let ready = on_moment heard_all (is_open w.plan w.hop heard.now) heard.since in
    core_requests most (send_room ready heard.since) heard.since ready

-- One turn, after its start, of at most this many calls. It receives up to 64 packets; its second half begins with the
-- outcome of its calls.
abbrev pub sender_done : SenderWorker → ℕ → SenderState → Given → Done SenderState
sender_done w most p given =
    let packets = take 64 given.packets in
    let first = sender_requests w most p packets given.heard in
    with_hearings (worker.Sender w.hop) (sender_sleep w p given.start) packets given.heard
    (sender_on_calls w given.heard.now given.made first.state first.calls)

-- one turn
abbrev pub sender_turn : SenderWorker → ℕ → SenderState → Given → Done SenderState
sender_turn w most p given = with_start (worker.Sender w.hop) given.start (sender_done w most p given)
