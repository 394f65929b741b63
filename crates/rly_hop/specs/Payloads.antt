-- Messages, events and actions over their payload's bytes, whatever type holds these in the code.
use Rattle.std.specs.Prelude.{ℕ, List}
use Rattle.std.specs.Borrow.{Bor}
use Rattle.rly_hop.specs.declared.message.Message.{Message}
use Rattle.rly_hop.specs.declared.message.Message.TheVariants as message
use Rattle.rly_hop.specs.declared.receiving.event.InEvent.{InEvent}
use Rattle.rly_hop.specs.declared.receiving.event.InEvent.TheVariants as in_event
use Rattle.rly_hop.specs.declared.receiving.event.InAction.{InAction}
use Rattle.rly_hop.specs.declared.receiving.event.InAction.TheVariants as in_action
use Rattle.rly_hop.specs.declared.sending.event.OutEvent.{OutEvent}
use Rattle.rly_hop.specs.declared.sending.event.OutEvent.TheVariants as out_event
use Rattle.rly_hop.specs.declared.sending.event.OutAction.{OutAction}
use Rattle.rly_hop.specs.declared.sending.event.OutAction.TheVariants as out_action

-- the message with its payload mapped
abbrev pub message_map : {P Q : Type 0} → (P → Q) → Message P → Message Q
message_map f (message.Data from to number limit payload) = message.Data from to number limit (f payload)
message_map f (message.Custody from to last) = message.Custody from to last
message_map f (message.Refused from to number refusal) = message.Refused from to number refusal
message_map f (message.Heard from to last bits) = message.Heard from to last bits

-- the message, seen as the bytes that it borrows
abbrev pub message_bytes : Message (Bor (List ℕ)) → Message (List ℕ)
message_bytes m = message_map (λ payload. payload.now) m

-- the event, seen as the bytes that it borrows
abbrev pub in_event_bytes : InEvent (Bor (List ℕ)) → InEvent (List ℕ)
in_event_bytes (in_event.Heard m) = in_event.Heard (message_bytes m)
in_event_bytes (in_event.Answered answer) = in_event.Answered answer
in_event_bytes in_event.Lost = in_event.Lost

-- the action, seen as the bytes that it borrows
abbrev pub in_action_bytes : InAction (Bor (List ℕ)) → InAction (List ℕ)
in_action_bytes (in_action.Take number limit payload) = in_action.Take number limit payload.now
in_action_bytes (in_action.Send m) = in_action.Send (message_bytes m)

-- the event, seen as the bytes that it borrows
abbrev pub out_event_bytes : OutEvent (Bor (List ℕ)) → OutEvent (List ℕ)
out_event_bytes (out_event.Turn is_open) = out_event.Turn is_open
out_event_bytes (out_event.WindowIs first next) = out_event.WindowIs first next
out_event_bytes (out_event.Picked number) = out_event.Picked number
out_event_bytes out_event.Nothing = out_event.Nothing
out_event_bytes (out_event.Fetched number limit payload) = out_event.Fetched number limit payload.now
out_event_bytes out_event.Released = out_event.Released
out_event_bytes out_event.Unchanged = out_event.Unchanged
out_event_bytes (out_event.Refused refusal) = out_event.Refused refusal
out_event_bytes out_event.Other = out_event.Other
out_event_bytes (out_event.Heard m) = out_event.Heard (message_bytes m)
out_event_bytes out_event.Timeout = out_event.Timeout

-- the action, seen as the bytes that it borrows
abbrev pub out_action_bytes : OutAction (Bor (List ℕ)) → OutAction (List ℕ)
out_action_bytes out_action.AskWindow = out_action.AskWindow
out_action_bytes (out_action.Release number) = out_action.Release number
out_action_bytes (out_action.Fetch number) = out_action.Fetch number
out_action_bytes out_action.Pick = out_action.Pick
out_action_bytes (out_action.Send m) = out_action.Send (message_bytes m)
