-- Helpers of private functions: the steps of a turn, and the replies of a desk in memory.
use Rattle.std.specs.Prelude.{◌≡◌, ◌⊎◌, ◌≤◌, ◌<◌, ◌+◌, ◌-◌, ◌^◌, ◌∷◌, ◌++◌, ℕ, Bool, List, [], fold, length, map, max, reverse}
use Rattle.std.specs.Prelude.{vec_capacity, Option, Some, None, Result, ⊤}
use Rattle.std.specs.List.{cons_option, filter_map}
use Rattle.rly_core.specs.declared.refusal.Refusal.TheVariants.{OutOfMemory}
use Rattle.rly_line.specs.declared.call_error.BatchError.{BatchError}
use Rattle.rly_machine.specs.Ask.{ask_step}
use Rattle.rly_machine.specs.declared.call.Answer.{Answer}
use Rattle.rly_machine.specs.declared.command.Ask.{Ask}
use Rattle.rly_machine.specs.declared.reply.Reply.{Reply}
use Rattle.rly_machine.specs.declared.reply.Reply.TheVariants.{Refused}
use Rattle.rly_machine.specs.State.{State}
use Rattle.rly_hop.specs.declared.sending.event.OutAction.{OutAction}
use Rattle.rly_hop.specs.declared.sending.event.OutAction.TheVariants as action
use Rattle.rly_hop.specs.declared.sending.event.OutEvent.{OutEvent}
use Rattle.rly_hop.specs.Receiver.{Receiver}
use Rattle.rly_hop.specs.Payloads.{out_action_bytes}
use Rattle.rly_threads_workers.specs.declared.receiver.Takes.{Takes}
use Rattle.rly_threads_workers.specs.declared.calls.Calls.{Calls}
use Rattle.rly_link.specs.declared.turn.Go.{Go}
use Rattle.rly_link.specs.declared.turn.Point.TheVariants as point
use Rattle.rly_link.specs.declared.turn.Worker.TheVariants as worker
use Rattle.rly_threads_workers.specs.DeskExchanges.{batch_outcome}
use Rattle.rly_link.specs.LinkHistory.{TellsMore}
use Rattle.rly_threads_workers.specs.ReceiverTurns.{Arrival, ReceiverWorker, WaitingCore, NamedTake, answers_sent}
use Rattle.rly_threads_workers.specs.ReceiverTurns.{hearings, receives, core_of_take, receiver_requests, wakings}
use Rattle.rly_threads_workers.specs.declared.sender_state.SenderState.{SenderState}
use Rattle.rly_threads_workers.specs.SenderTurns.{SenderWorker, after_out_event, calls_from, named_ask, sender_events}
use Rattle.rly_threads_workers.specs.SenderTurns.{sender_on_packet, sender_requests, sender_sent, sender_sleep}
use Rattle.rly_threads_workers.specs.Runs.{EndsView}
use Rattle.rly_link.specs.declared.link.Sleep.{Sleep}
use Rattle.rly_threads_workers.specs.Turns.{Done, hearings_from, receives_of}

-- a worker did this, and has this state now
pub record Did {C : Type 0} (old new : EndsView) (core : C) (d : Done C) : Type 0 where
  pub left : core ≡ d.core
  pub heard : TellsMore old.heard new.heard d.heard
  pub sent : TellsMore old.sent new.sent d.sent
  pub asked : TellsMore old.asked new.asked d.asked
  pub handed : TellsMore old.handed new.handed d.handed
  pub woken : TellsMore old.woken new.woken d.woken

-- the machine's reply and the state after it, unless memory was refused
abbrev pub IsReply : State (List ℕ) → State (List ℕ) → Ask → Reply → Type 0
IsReply old new ask reply =
    ((reply ≡ Refused OutOfMemory) × (new ≡ old)) ⊎ ((reply ≡ (ask_step old ask).1) × (new ≡ (ask_step old ask).0))

-- there is room for the Takes of a turn, or room is made for its one Take
abbrev pub HasTakeRoom : Takes → Type 0
HasTakeRoom t =
    ((t.most ≡ 64) × (64 ≤ vec_capacity t.asks) × (64 ≤ vec_capacity t.waiting) × (64 ≤ vec_capacity t.answers))
    ⊎ (t.most ≡ 1)

-- there is no Take
pub record HasNoTake (t : Takes) : Type 0 where
  pub room : HasTakeRoom t
  pub asks : t.asks.items ≡ []
  pub waiting : t.waiting.items ≡ []
  pub answers : t.answers.items ≡ []

-- as many cores wait as there are Takes, none is answered, and there is room for their answers
pub record AreWaiting (t : Takes) : Type 0 where
  pub room : HasTakeRoom t
  pub each : length t.waiting.items ≡ length t.asks.items
  pub none : t.answers.items ≡ []
  pub place : length t.asks.items ≤ vec_capacity t.answers

-- these Takes were added
pub record HasMore (old new : Takes) (more : List NamedTake) : Type 0 where
  pub most : new.most ≡ old.most
  pub asks : new.asks.items ≡ old.asks.items ++ map (λ x. x.ask) more
  pub waits : new.waiting.items ≡ old.waiting.items ++ map core_of_take more

-- a worker received these packets, and then perhaps none, and holds the Takes that follow
pub record HasGathered (w : ReceiverWorker) (r : Receiver) (old new : EndsView) (before after : Takes)
    (packets : List Arrival)
    (quiet : Go) : Type 0 where
  pub few : length packets ≤ before.most
  pub heard : TellsMore old.heard new.heard (hearings (receives before.most packets quiet))
  pub handed : TellsMore old.handed new.handed
      (map (λ x. (worker.Receiver w.peer, point.Heard, x.1)) (receives before.most packets quiet))
  pub same : new ≡ record old { heard = new.heard; handed = new.handed }
  pub more : HasMore before after (receiver_requests w before.most r packets)

-- a worker woke senders and sent messages as its cores request on these answers
pub record HasAnswered (r : Receiver) (old new : EndsView) (taken : List (WaitingCore × Answer)) : Type 0 where
  pub sent : TellsMore old.sent new.sent (answers_sent r taken)
  pub woken : TellsMore old.woken new.woken (wakings taken)
  pub same : new ≡ record old { sent = new.sent; woken = new.woken }

-- a worker received these packets, and then perhaps none, and passed the messages in them on
pub record HasHeard (sleep : Sleep) (old new : EndsView) (before after : SenderState) (packets : List (List ℕ)) : Type 0 where
  pub few : length packets ≤ 64
  pub heard : TellsMore old.heard new.heard (hearings_from sleep (receives_of packets))
  pub same : new ≡ record old { heard = new.heard }
  pub core : after ≡ fold sender_on_packet before packets

-- the asks of a sender's calls, in order, and their answers: in lists, or one alone
abbrev pub asks_in : Calls → List Ask
asks_in c = cons_option c.ask c.asks.items

abbrev pub answers_in : Calls → List Answer
answers_in c = cons_option c.answer c.answers.items

-- the answers that weren't taken yet, once the list is reversed
abbrev pub coming_in : Calls → List Answer
coming_in c = cons_option c.answer (reverse c.answers.items)

-- there is room for 64 calls together, or calls are made one at a time, without lists
abbrev pub HasCallRoom : Calls → Type 0
HasCallRoom c =
    ((c.most ≡ 64) × (64 ≤ vec_capacity c.asks) × (64 ≤ vec_capacity c.answers) × (c.ask ≡ None) × (c.answer ≡ None))
    ⊎ ((c.most ≡ 1) × (c.asks.items ≡ []) × (c.answers.items ≡ []))

-- there is no call
pub record IsIdle (c : Calls) : Type 0 where
  pub room : HasCallRoom c
  pub asks : asks_in c ≡ []
  pub answers : answers_in c ≡ []

-- other calls of the same turn, with the same room
pub record IsSameTurn (old new : Calls) : Type 0 where
  pub most : new.most ≡ old.most
  pub again : new.again ≡ old.again
  pub named : new.named ≡ old.named
  pub room : HasCallRoom new

-- an action is a call
abbrev pub IsCall : OutAction (List ℕ) → Type 0
IsCall action.AskWindow = ⊤
IsCall (action.Release number) = ⊤
IsCall (action.Fetch number) = ⊤
IsCall action.Pick = ⊤
IsCall (action.Send m) = ⊥

-- this many numbers from that of a Fetch on fit the code's numbers
abbrev pub HasNumbers : OutAction (List ℕ) → ℕ → Type 0
HasNumbers action.AskWindow count = ⊤
HasNumbers (action.Release number) count = ⊤
HasNumbers (action.Fetch number) count = number + count < 2 ^ 64
HasNumbers action.Pick count = ⊤
HasNumbers (action.Send m) count = ⊤

-- These calls are to be submitted: their asks are there, in order, and what their answers are read by, and no answer.
pub record AreListed (w : SenderWorker) (now : ℕ) (c : Calls) (calls : List (OutAction (List ℕ))) : Type 0 where
  pub room : HasCallRoom c
  pub asks : asks_in c ≡ filter_map (named_ask w now) calls
  pub each : calls ≡ calls_from c.again.items (out_action_bytes c.named) (length (asks_in c))
  pub few : length (asks_in c) ≤ c.most
  pub numbers : HasNumbers (out_action_bytes c.named) (length (asks_in c) - length c.again.items)
  pub answers : answers_in c ≡ []

-- a core got these events at a moment, in order, and the messages that it then requested were sent
pub record HasHandedEvent (in_contact : Bool) (at : ℕ) (old new : EndsView) (before after : SenderState)
    (told : List (OutEvent (List ℕ))) : Type 0 where
  pub core : after ≡ fold (after_out_event in_contact at) before told
  pub sent : TellsMore old.sent new.sent (sender_sent in_contact at before told)
  pub same : new ≡ record old { sent = new.sent }

-- the core's events for the outcome of these calls
abbrev pub outcome_events : Calls → Result (Unit {0}) BatchError → List (OutEvent (List ℕ))
outcome_events c outcome =
    sender_events (calls_from c.again.items (out_action_bytes c.named) (length (answers_in c)))
    (batch_outcome outcome (answers_in c))

-- A sender received these packets in the first half of a turn, and then perhaps none, and got the turn's tick. Its calls
-- are listed.
pub record HasRequested (w : SenderWorker) (most : ℕ) (old new : EndsView) (before after : SenderState) (c : Calls)
    (start : Go) (packets : List (List ℕ)) (go : Go) : Type 0 where
  pub few : length packets ≤ 64
  pub heard : TellsMore old.heard new.heard (hearings_from (sender_sleep w before start) (receives_of packets))
  pub handed : TellsMore old.handed new.handed ((worker.Sender w.hop, point.Heard, go) ∷ [])
  pub same : new ≡ record old { heard = new.heard; handed = new.handed }
  pub state : after ≡ (sender_requests w most before packets go).state
  pub calls : AreListed w go.now c (sender_requests w most before packets go).calls

-- the greater of two numbers, of those that are present
abbrev pub greater : Option ℕ → Option ℕ → Option ℕ
greater None number = number
greater (Some last) None = Some last
greater (Some last) (Some number) = Some (max last number)
