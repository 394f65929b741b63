-- The state of a sending worker between turns, and its changes in a turn before its core acts: which messages it has
-- received, when the core gets a Timeout, and how many messages may be sent (docs/ARCHITECTURE.md, "The pace of a hop").
use Rattle.std.specs.Prelude.{ℕ, min, List, [], ◌∷◌, ◌++◌, length, Bool, true, false, nat_le}
use Rattle.std.specs.Prelude.{if◌then◌else◌, Option, Some, None, is_some, option_map}
use Rattle.rly_core.specs.declared.params.Params.{Params}
use Rattle.rly_hop.specs.declared.message.Message.{Message}
use Rattle.rly_hop.specs.declared.message.Message.TheVariants as message
use Rattle.rly_hop.specs.declared.sending.event.OutAction.{OutAction}
use Rattle.rly_hop.specs.declared.sending.event.OutAction.TheVariants as action
use Rattle.rly_hop.specs.declared.sending.event.OutEvent.{OutEvent}
use Rattle.rly_hop.specs.declared.sending.event.OutEvent.TheVariants as event
use Rattle.rly_hop.specs.Sender.{Sender}
use Rattle.rly_hop.specs.Sending.{repeat_action, reports_flight, sending_step, turn_action}
use Rattle.rly_hop.specs.Spelling.{longest_message}
use Rattle.rly_hop_pacing.specs.declared.rate.Bucket.{Bucket}
use Rattle.rly_hop_pacing.specs.CongestionControl.{ControlView, first_control, is_opening, on_contact, on_covered, on_heard}
use Rattle.rly_hop_pacing.specs.CongestionControl.{on_custody, on_left, on_sent, on_time, on_window, open_room}
use Rattle.rly_hop_pacing.specs.Rates.{first_bucket, may_take, on_take, room_at}
use Rattle.rly_threads_workers.specs.declared.sender_state.Report.{Report}
use Rattle.rly_threads_workers.specs.declared.sender_state.Reports.{Reports}
use Rattle.rly_threads_workers.specs.declared.sender_state.SenderState.{SenderState}

-- nothing was received in this turn
abbrev pub no_reports : Reports
no_reports = record { custody = false; heard = None }

-- Initially, in a spool with these parameters: one Pick may be submitted, no contact is open, and the burst is
-- available. `resend` in milliseconds, the rate in bytes a second; the longest message has the spool's longest
-- payload and a limit.
abbrev pub first_sender_state : Sender → Params → ℕ → Option ℕ → SenderState
first_sender_state core params resend rate = record {
  core = core;
  drained = false;
  failed = false;
  picks = 1;
  pace = first_control resend params.window (is_some rate);
  rate = option_map (λ r. first_bucket r (longest_message params.payload) 0) rate;
  reports = no_reports;
}

-- a Heard on the flight is kept until the turn's time, the last one of a turn, and that a Custody of the number before the
-- flight or of one in it came
abbrev pub reports_after : SenderState → Message (List ℕ) → Reports
reports_after p (message.Heard from to last bits) =
    if reports_flight p.core from to last then record p.reports { heard = Some (record { last = last; bits = bits }) } else p.reports
reports_after p (message.Data from to number limit payload) = p.reports
reports_after p (message.Custody from to last) =
    if reports_flight p.core from to last then record p.reports { custody = true } else p.reports
reports_after p (message.Refused from to number refusal) = p.reports

-- the state after a message, if one was received: the core gets it
abbrev pub sender_on_hearing : SenderState → Option (Message (List ℕ)) → SenderState
sender_on_hearing p None = p
sender_on_hearing p (Some m) = record p {
  core = (sending_step p.core (event.Heard m)).0;
  reports = reports_after p m;
}

-- the core gets a Timeout, if this is true
abbrev pub set_back_if : Bool → SenderState → SenderState
set_back_if false p = p
set_back_if true p = record p { core = (sending_step p.core event.Timeout).0 }

-- Whether a contact is open at the turn's time: as it opens, the core gets a Timeout.
abbrev pub with_contact : SenderState → Bool → SenderState
with_contact p is_open = set_back_if (is_opening p.pace is_open) (record p { pace = on_contact p.pace is_open })

-- custody of all up to the number to release was received
abbrev pub control_on_release : ControlView → Option (OutAction (List ℕ)) → ℕ → ControlView
control_on_release pace (Some (action.Release number)) at = on_covered pace number at
control_on_release pace (Some action.AskWindow) at = pace
control_on_release pace (Some (action.Fetch number)) at = pace
control_on_release pace (Some action.Pick) at = pace
control_on_release pace (Some (action.Send m)) at = pace
control_on_release pace None at = pace

-- the congestion control gets the received custody
abbrev pub with_custody : SenderState → ℕ → SenderState
with_custody p at = record p { pace = control_on_release p.pace (turn_action p.core false) at }

-- the congestion control gets the Heard
abbrev pub control_on_report : ControlView → Option Report → ℕ → ControlView
control_on_report pace None at = pace
control_on_report pace (Some report) at = on_heard pace report.last report.bits at

-- and that a Custody came
abbrev pub control_on_custody : ControlView → Bool → ℕ → ControlView
control_on_custody pace false at = pace
control_on_custody pace true at = on_custody pace at

abbrev pub control_on_reports : ControlView → Reports → ℕ → ControlView
control_on_reports pace reports at = control_on_custody (control_on_report pace reports.heard at) reports.custody at

abbrev pub with_reports : SenderState → ℕ → SenderState
with_reports p at = record p { pace = control_on_reports p.pace p.reports at; reports = no_reports }

-- this much is left of the contact
abbrev pub with_left : Option ℕ → SenderState → SenderState
with_left left p = record p { pace = on_left p.pace left }

-- The state at the turn's time, after the packets were received: a custody of more precedes a Heard, that precedes what a Custody
-- says of the hop's station, and all precede a Timeout.
abbrev pub on_moment : SenderState → Bool → ℕ → SenderState
on_moment p is_open at =
    let told = with_reports (with_custody (with_contact p is_open) at) at in
    record told { pace = on_time told.pace at }

-- of this many messages, how many the rate permits at a moment, if each may be the longest
abbrev pub rate_room : Option Bucket → ℕ → ℕ → ℕ
rate_room None at room = room
rate_room (Some b) at room = min room (room_at b at)

-- How many messages may be sent at a moment. If none may, the core's turn counts its contact as closed.
abbrev pub send_room : SenderState → ℕ → ℕ
send_room p at = rate_room p.rate at (open_room p.pace at)

-- whether the rate permits a packet at a moment, and the bucket after it
abbrev pub lets_out : Option Bucket → List ℕ → ℕ → Bool
lets_out None packet at = true
lets_out (Some b) packet at = may_take b (length packet) at

abbrev pub rate_after_one : Option Bucket → List ℕ → ℕ → Option Bucket
rate_after_one None packet at = None
rate_after_one (Some b) packet at = Some (on_take b (length packet) at)

-- of the packets to send at a moment, those that the rate permits, in order, and the bucket after them
abbrev pub let_out : Option Bucket → List (List ℕ) → ℕ → List (List ℕ)
let_out rate [] at = []
let_out rate (packet ∷ others) at =
    (if lets_out rate packet at then packet ∷ [] else []) ++ let_out (rate_after_one rate packet at) others at

abbrev pub rate_after : Option Bucket → List (List ℕ) → ℕ → Option Bucket
rate_after rate [] at = rate
rate_after rate (packet ∷ others) at = rate_after (rate_after_one rate packet at) others at

-- an action, or another if there is none
abbrev pub or_else : {A : Type 0} → Option A → Option A → Option A
or_else None other = other
or_else (Some a) other = Some a

-- the answer to the Fetch of a number that the core has sent is sent again
abbrev pub repeat_on : Sender → OutEvent (List ℕ) → Option (OutAction (List ℕ))
repeat_on s (event.Fetched number limit payload) = repeat_action s number limit payload
repeat_on s (event.WindowIs first next) = None
repeat_on s (event.Picked number) = None
repeat_on s event.Nothing = None
repeat_on s event.Released = None
repeat_on s event.Unchanged = None
repeat_on s (event.Refused refusal) = None
repeat_on s event.Other = None
repeat_on s event.Timeout = None
repeat_on s (event.Heard m) = None
repeat_on s (event.Turn in_contact) = None

-- the action on an event of the core: the one that it requests, or a repeat
abbrev pub action_on : Sender → OutEvent (List ℕ) → Option (OutAction (List ℕ))
action_on s told = or_else (sending_step s told).1 (repeat_on s told)

-- the core gets the window
abbrev pub control_on_answer : ControlView → OutEvent (List ℕ) → ControlView
control_on_answer pace (event.WindowIs first next) = if nat_le first next then on_window pace first next else pace
control_on_answer pace (event.Picked number) = pace
control_on_answer pace (event.Fetched number limit payload) = pace
control_on_answer pace event.Nothing = pace
control_on_answer pace event.Released = pace
control_on_answer pace event.Unchanged = pace
control_on_answer pace (event.Refused refusal) = pace
control_on_answer pace event.Other = pace
control_on_answer pace event.Timeout = pace
control_on_answer pace (event.Heard m) = pace
control_on_answer pace (event.Turn in_contact) = pace

-- a number is sent, whether or not the packet leaves
abbrev pub control_on_named : ControlView → Option (OutAction (List ℕ)) → ℕ → ControlView
control_on_named pace (Some (action.Send (message.Data from to number limit payload))) at = on_sent pace number at
control_on_named pace (Some (action.Send (message.Custody from to last))) at = pace
control_on_named pace (Some (action.Send (message.Refused from to number refusal))) at = pace
control_on_named pace (Some (action.Send (message.Heard from to last bits))) at = pace
control_on_named pace (Some action.AskWindow) at = pace
control_on_named pace (Some (action.Release number)) at = pace
control_on_named pace (Some (action.Fetch number)) at = pace
control_on_named pace (Some action.Pick) at = pace
control_on_named pace None at = pace
