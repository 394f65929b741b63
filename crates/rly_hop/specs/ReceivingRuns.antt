-- A receiving core over a list of events.
use Rattle.std.specs.Prelude.{◌≡◌, ℕ, ◌+◌, Option, Some, None, List, [], ◌∷◌}
use Rattle.rly_core.specs.declared.refusal.Refusal.TheVariants.{Gap}
use Rattle.rly_hop.specs.declared.message.StationId.{StationId}
use Rattle.rly_hop.specs.declared.receiving.event.TakeAnswer.TheVariants as answer
use Rattle.rly_hop.specs.declared.receiving.event.InEvent.{InEvent}
use Rattle.rly_hop.specs.declared.receiving.event.InEvent.TheVariants.{Heard, Answered, Lost}
use Rattle.rly_hop.specs.declared.receiving.event.InAction.{InAction}
use Rattle.rly_hop.specs.declared.receiving.event.InAction.TheVariants.{Take, Send}
use Rattle.rly_hop.specs.Receiver.{Receiver}
use Rattle.rly_hop.specs.Receiving.{receiving_step, receiver}

-- the state after these events, in order
abbrev pub receiver_after : Receiver → List (InEvent (List ℕ)) → Receiver
receiver_after r [] = r
receiver_after r (event ∷ events) = receiver_after (receiving_step r event).0 events

-- the action requested on each of these events: at most one each
abbrev pub in_actions : Receiver → List (InEvent (List ℕ)) → List (Option (InAction (List ℕ)))
in_actions r [] = []
in_actions r (event ∷ events) = (receiving_step r event).1 ∷ in_actions (receiving_step r event).0 events

-- the number of the last Take among the actions, or else of one before them
abbrev pub last_take : Option ℕ → List (Option (InAction (List ℕ))) → Option ℕ
last_take before [] = before
last_take before (Some (Take number limit payload) ∷ actions) = last_take (Some number) actions
last_take before (Some (Send message) ∷ actions) = last_take before actions
last_take before (None ∷ actions) = last_take before actions

-- the event is no answer
abbrev pub IsHeard : InEvent (List ℕ) → Type 0
IsHeard (Heard message) = Unit {0}
IsHeard (Answered any) = ⊥
IsHeard Lost = ⊥

-- The event is an answer that makes custody of all numbers up to n due: the last Take, whose number is n, is
-- answered Taken; or a Take is answered Already n, or is refused by the gap right after n.
abbrev pub IsCustodyDue : Option ℕ → InEvent (List ℕ) → ℕ → Type 0
IsCustodyDue taken (Answered answer.Taken) n = taken ≡ Some n
IsCustodyDue taken (Answered (answer.Already last)) n = n ≡ last
IsCustodyDue taken (Answered (answer.Refused (Gap expected))) n = n + 1 ≡ expected
IsCustodyDue taken (Answered (answer.Refused refusal)) n = ⊥
IsCustodyDue taken (Answered answer.Other) n = ⊥
IsCustodyDue taken (Heard message) n = ⊥
IsCustodyDue taken Lost n = ⊥

-- the action that a core of these stations requests on an event after others
abbrev pub in_action_after : StationId → StationId → List (InEvent (List ℕ)) → InEvent (List ℕ)
    → Option (InAction (List ℕ))
in_action_after own peer before event = (receiving_step (receiver_after (receiver own peer) before) event).1
