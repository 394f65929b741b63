-- Packets on a hop's port other than a Custody and a Heard on the flight, and a Custody that comes early (docs/ARCHITECTURE.md,
-- "Waiting times").
use Rattle.std.specs.Prelude.{ℕ, ◌≡◌, ◌<◌, ◌+◌, ◌&&◌, nat_lt, Bool, false, fold, List, Option, Some, None}
use Rattle.rly_hop.specs.declared.message.Message.{Message}
use Rattle.rly_hop.specs.declared.message.Message.TheVariants as message
use Rattle.rly_hop.specs.Sender.{Sender}
use Rattle.rly_hop.specs.Sending.{reports_flight}
use Rattle.rly_hop_pacing.specs.CongestionControl.{is_timeout, waiting_since}
use Rattle.rly_link.specs.LinkHistory.{message_in}
use Rattle.rly_link.specs.declared.turn.Go.{Go}
use Rattle.rly_plan.specs.ContactPlan.{is_open}
use Rattle.rly_threads_workers.specs.SenderState.{with_contact, with_custody, with_left, with_reports}
use Rattle.rly_threads_workers.specs.SenderTurns.{SenderWorker, contact_left, sender_on_packet}
use Rattle.rly_threads_workers.specs.declared.sender_state.SenderState.{SenderState}

-- whether a message is a Custody or a Heard of the number before the flight or of one in it, from the hop's station to the own one
abbrev pub concerns_flight : Sender → Option (Message (List ℕ)) → Bool
concerns_flight s None = false
concerns_flight s (Some (message.Data from to number limit payload)) = false
concerns_flight s (Some (message.Custody from to last)) = reports_flight s from to last
concerns_flight s (Some (message.Refused from to number refusal)) = false
concerns_flight s (Some (message.Heard from to last bits)) = reports_flight s from to last

-- whether a packet is one
abbrev pub is_on_flight : Sender → List ℕ → Bool
is_on_flight s packet = concerns_flight s (message_in (Some packet))

-- whether a message is a Custody of the number before the flight, from the hop's station to the own one: it covers nothing more
abbrev pub covers_nothing : Sender → Option (Message (List ℕ)) → Bool
covers_nothing s None = false
covers_nothing s (Some (message.Data from to number limit payload)) = false
covers_nothing s (Some (message.Custody from to last)) = reports_flight s from to last && nat_lt last s.first
covers_nothing s (Some (message.Refused from to number refusal)) = false
covers_nothing s (Some (message.Heard from to last bits)) = false

abbrev pub is_of_nothing_more : Sender → List ℕ → Bool
is_of_nothing_more s packet = covers_nothing s (message_in (Some packet))

-- At the turn's time, after these packets were received, no Timeout is due, and `resend` hasn't passed since the first number in
-- flight was last sent and since custody last covered more.
abbrev pub IsEarly : SenderWorker → SenderState → List (List ℕ) → Go → Type 0
IsEarly w p packets heard =
    let heard_all = with_left (contact_left w heard.now) (fold sender_on_packet p packets) in
    let opened = with_contact heard_all (is_open w.plan w.hop heard.now) in
    let told = with_reports (with_custody opened heard.since) heard.since in
    (is_timeout told.pace heard.since ≡ false) × (heard.since < waiting_since told.pace + told.pace.timer.resend)
