-- The receiving end of custody: the transition on each event, row by row (docs/PROTOCOL.md, "The receiving core").
use Rattle.std.specs.Prelude.{ℕ, ◌-◌, Bool, ◌&&◌, ◌==◌, if◌then◌else◌, Option, Some, None, is_none, List, [], ◌∷◌}
use Rattle.std.specs.List.{list_any}
use Rattle.rly_core.specs.Refusals.{number_of}
use Rattle.rly_core.specs.declared.refusal.Refusal.{Refusal}
use Rattle.rly_core.specs.declared.refusal.Refusal.TheVariants.{Gap}
use Rattle.rly_hop.specs.declared.message.StationId.{StationId}
use Rattle.rly_hop.specs.declared.message.Message.TheVariants as message
use Rattle.rly_hop.specs.declared.receiving.event.TakeAnswer.{TakeAnswer}
use Rattle.rly_hop.specs.declared.receiving.event.TakeAnswer.TheVariants as answer
use Rattle.rly_hop.specs.declared.receiving.event.InEvent.{InEvent}
use Rattle.rly_hop.specs.declared.receiving.event.InEvent.TheVariants.{Heard, Answered, Lost}
use Rattle.rly_hop.specs.declared.receiving.event.InAction.{InAction}
use Rattle.rly_hop.specs.declared.receiving.event.InAction.TheVariants.{Take, Send}
use Rattle.rly_hop.specs.Receiver.{Receiver}

-- the result of an event: the state, and the requested action, if any
abbrev pub ReceivingResult : Type 0
ReceivingResult = Receiver × Option (InAction (List ℕ))

-- the refusals that are sent to the peer station
abbrev pub is_reported_refusal : Refusal → Bool
is_reported_refusal refusal = list_any (λ n. number_of refusal == n) (1 ∷ 2 ∷ 3 ∷ 5 ∷ 6 ∷ 15 ∷ [])

-- the messages to the peer station: custody of all numbers up to last · a refusal of a Take
abbrev pub custody_message : Receiver → ℕ → Option (InAction (List ℕ))
custody_message r last = Some (Send (message.Custody r.own r.peer last))

abbrev pub refusal_message : Receiver → ℕ → Refusal → Option (InAction (List ℕ))
refusal_message r number refusal = Some (Send (message.Refused r.own r.peer number (number_of refusal)))

-- the message sent on the answer to the Take of this number, row by row
abbrev pub take_reply : Receiver → ℕ → TakeAnswer → Option (InAction (List ℕ))
take_reply r number answer.Taken = custody_message r number
take_reply r number (answer.Already last) = custody_message r last
take_reply r number (answer.Refused (Gap expected)) = if expected == 0 then None else custody_message r (expected - 1)
take_reply r number
    (answer.Refused refusal) = if is_reported_refusal refusal then refusal_message r number refusal else None
take_reply r number answer.Other = None

-- an answer ends the wait for it, and changes nothing if no Take is pending
abbrev pub after_answer : Receiver → Option ℕ → TakeAnswer → ReceivingResult
after_answer r None any = (r, None)
after_answer r (Some number) any = (record r { pending = None }, take_reply r number any)

-- each event, row by row: the first row that matches decides
abbrev pub receiving_step : Receiver → InEvent (List ℕ) → ReceivingResult
receiving_step r (Heard (message.Data from to number limit payload)) =
    if (from.0 == r.peer.0) && (to.0 == r.own.0) && is_none r.pending
    then (record r { pending = Some number }, Some (Take number limit payload)) else (r, None)
receiving_step r (Heard (message.Custody from to last)) = (r, None)
receiving_step r (Heard (message.Refused from to number refusal)) = (r, None)
receiving_step r (Heard (message.Heard from to last bits)) = (r, None)
receiving_step r (Answered any) = after_answer r r.pending any
receiving_step r Lost = (record r { pending = None }, None)

-- the initial core
abbrev pub receiver : StationId → StationId → Receiver
receiver own peer = record { own = own; peer = peer; pending = None }
