-- One end of a link: the commands that its relay accepted and acknowledged, and the calls of its cores that wait for
-- their replies.
use Rattle.std.specs.Prelude.{ℕ, ◌&&◌, nat_le, nat_lt, max, Bool, true, false, if◌then◌else◌}
use Rattle.std.specs.Prelude.{List, [], ◌∷◌, ◌++◌, length, map, take}
use Rattle.rly_core.specs.declared.params.Params.{Params}
use Rattle.rly_core.specs.declared.refusal.Refusal.TheVariants as refusal
use Rattle.rly_machine.specs.declared.command.Ask.{Ask}
use Rattle.rly_machine.specs.declared.command.Ask.TheVariants as ask
use Rattle.rly_machine.specs.declared.command.Command.{Command}
use Rattle.rly_machine.specs.declared.reply.Reply.{Reply}
use Rattle.rly_machine.specs.declared.reply.Reply.TheVariants.{Bytes, Refused}
use Rattle.rly_machine.specs.Ask.{ask_step}
use Rattle.rly_machine.specs.Fold.{fold}
use Rattle.rly_machine.specs.History.{accepted_by, is_failure}
use Rattle.rly_machine.specs.Query.{query_reply}
use Rattle.rly_machine.specs.State.{State, new_state}

-- a call that isn't made yet, and the index of the core that requested it
pub record Asked : Type 0 where
  pub core : ℕ
  pub ask : Ask

-- a call that was made and waits for its reply: the reply, and the number of accepted commands that it acknowledges
pub record Replied : Type 0 where
  pub call : Asked
  pub reply : Reply
  pub position : ℕ

-- an end of a link
pub record End : Type 0 where
  -- the parameters of its spool, which was new at first
  pub params : Params
  -- its accepted commands, in order
  pub accepted : List (Command (List ℕ))
  -- the greatest position in a reply that it gave
  pub told : ℕ
  -- the state of its device since the last crash: 0 no failure; 1 it may work again after a crash; 2 it is broken
  pub harm : ℕ
  -- the calls that aren't made yet and, before them, those that were made and wait for their replies, in the order of
  -- the requests
  pub asked : List Asked
  pub replied : List Replied

-- the outcome of a call
pub data CallFate : Type 0 where
  -- it is made, and gets the machine's reply
  Done : CallFate
  -- the device fails: the reply is 12, and its command is applied or not
  Unsure : (stands : Bool) → CallFate
  -- the journal is broken, a read fails, or an allocation for a request that may need one: the reply is 11, 13 or 14,
  -- and it isn't made
  Broken : CallFate
  DeviceRead : CallFate
  OutOfMemory : CallFate

-- the reply in place of the machine's
abbrev pub reply_by : CallFate → Reply → Reply
reply_by Done reply = reply
reply_by (Unsure stands) reply = Refused refusal.Unsure
reply_by Broken reply = Refused refusal.Broken
reply_by DeviceRead reply = Refused refusal.DeviceRead
reply_by OutOfMemory reply = Refused refusal.OutOfMemory

-- true if the command of the call is applied
abbrev pub is_made : CallFate → Bool
is_made Done = true
is_made (Unsure stands) = stands
is_made Broken = false
is_made DeviceRead = false
is_made OutOfMemory = false

-- the failure of the device by this outcome
abbrev pub harm_by : CallFate → ℕ
harm_by Done = 0
harm_by (Unsure stands) = 1
harm_by Broken = 2
harm_by DeviceRead = 0
harm_by OutOfMemory = 0

-- the number of accepted commands that a reply acknowledges: none if it is a failure
abbrev pub reported_by : CallFate → ℕ → ℕ
reported_by Done count = count
reported_by (Unsure stands) count = 0
reported_by Broken count = 0
reported_by DeviceRead count = 0
reported_by OutOfMemory count = 0

-- the state of its machine
abbrev pub state_of : End → State (List ℕ)
state_of e = fold length (new_state e.params) e.accepted

-- the machine's reply to an ask
abbrev pub reply_at : End → Ask → Reply
reply_at e ask = (ask_step (state_of e) ask).1

-- true if a reply carries bytes
abbrev pub carries_bytes : Reply → Bool
carries_bytes (Bytes payload limit) = nat_lt 0 (length payload)
carries_bytes _ = false

-- true if an allocation for a request may fail: for a command, since a segment may be due before it, and for a Fetch of
-- a payload that has bytes
abbrev pub may_want : State (List ℕ) → Ask → Bool
may_want s (ask.Command command) = true
may_want s (ask.Query query) = carries_bytes (query_reply s query)

-- an allocation fails only for such a request
abbrev pub is_wanted : State (List ℕ) → Ask → CallFate → Bool
is_wanted s ask Done = true
is_wanted s ask (Unsure stands) = true
is_wanted s ask Broken = true
is_wanted s ask DeviceRead = true
is_wanted s ask OutOfMemory = may_want s ask

-- true if a call may have this outcome: a device that failed never works again before the next crash
abbrev pub may_go : End → Ask → CallFate → Bool
may_go e ask outcome = nat_le e.harm (harm_by outcome) && is_wanted (state_of e) ask outcome

-- the accepted commands after a call with this outcome
abbrev pub accepted_after : End → Ask → CallFate → List (Command (List ℕ))
accepted_after e ask outcome = e.accepted ++ (if is_made outcome then accepted_by ask (reply_at e ask) else [])

-- the end after a call with this outcome
abbrev pub after_call : End → Ask → CallFate → End
after_call e ask outcome = record e { accepted = accepted_after e ask outcome; harm = harm_by outcome }

-- a reply is given: unless it is a failure, it acknowledges all commands up to its position
abbrev pub end_after_answer : End → Reply → ℕ → End
end_after_answer e reply position = record e { told = if is_failure reply then e.told else max e.told position }

-- a core requests calls, which wait after the earlier ones
abbrev pub with_asked : End → ℕ → List Ask → End
with_asked e core asks = record e { asked = e.asked ++ map (λ ask. record { core = core; ask = ask }) asks }

-- the first waiting call is made
abbrev pub with_made : End → CallFate → List Asked → End
with_made e outcome [] = e
with_made e outcome (call ∷ calls) =
    let reply = reply_by outcome (reply_at e call.ask) in
    let after = after_call e call.ask outcome in
    if may_go e call.ask outcome
    then record after {
      asked = calls;
      replied = e.replied ++ (record {
        call = call;
        reply = reply;
        position = reported_by outcome (length after.accepted);
      }) ∷ [];
    }
    else e

-- a call of another client is made, with an immediate reply or none
abbrev pub with_other : End → Ask → CallFate → Bool → End
with_other e ask outcome is_answered =
    let after = after_call e ask outcome in
    if may_go e ask outcome
    then if is_answered then end_after_answer after (reply_by outcome (reply_at e ask))
    (length after.accepted) else after
    else e

-- A crash leaves a prefix of the accepted commands, with all acknowledged ones. No call waits after it. If the relay
-- doesn't open again, it is broken until the next crash.
abbrev pub with_crash : End → ℕ → Bool → End
with_crash e kept opens = record e {
  accepted = take kept e.accepted;
  harm = if opens then 0 else 2;
  asked = [];
  replied = [];
}

-- the end of a new spool
abbrev pub new_end : Params → End
new_end params = record { params = params; accepted = []; told = 0; harm = 0; asked = []; replied = [] }

-- the durable commands: those up to the acknowledged position
abbrev pub durable_commands : End → List (Command (List ℕ))
durable_commands e = take e.told e.accepted
