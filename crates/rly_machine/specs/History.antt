-- Histories: the calls of a spool's clients and their replies, in the order of the calls.
use Rattle.std.specs.Prelude.{ℕ, ◌≡◌, ◌≤◌, List, [], ◌∷◌, ◌++◌, Bool, true, false, if◌then◌else◌}
use Rattle.rly_core.specs.declared.refusal.Refusal.TheVariants.{Broken, Unsure, DeviceRead, OutOfMemory}
use Rattle.rly_machine.specs.declared.call.Answer.{Answer}
use Rattle.rly_machine.specs.declared.call.Call.{Call}
use Rattle.rly_machine.specs.declared.command.Ask.{Ask}
use Rattle.rly_machine.specs.declared.command.Ask.TheVariants as ask
use Rattle.rly_machine.specs.declared.command.Command.{Command}
use Rattle.rly_machine.specs.declared.reply.Reply.{Reply}
use Rattle.rly_machine.specs.declared.reply.Reply.TheVariants.{Bytes, Refused}
use Rattle.rly_machine.specs.Accepted.{is_accepted}
use Rattle.rly_machine.specs.Ask.{ask_step}
use Rattle.rly_machine.specs.State.{State}

-- one call and its reply
abbrev pub Entry : Type 0
Entry = Call × Answer

-- the replies that the machine itself never gives: the journal is Broken, the device failed, or memory allocation
-- failed
abbrev pub is_failure : Reply → Bool
is_failure (Refused Broken) = true
is_failure (Refused Unsure) = true
is_failure (Refused DeviceRead) = true
is_failure (Refused OutOfMemory) = true
is_failure _ = false

-- the damage of the device in a reply: 0 none, 1 it failed in that round, 2 it failed in an earlier one
abbrev pub harm : Reply → ℕ
harm (Refused Broken) = 2
harm (Refused Unsure) = 1
harm _ = 0

-- the state after a reply: after a failure it is unchanged
abbrev pub next_state : State (List ℕ) → Entry → State (List ℕ)
next_state s entry = if is_failure entry.1.reply then s else (ask_step s entry.0.ask).0

-- the state after a history
abbrev pub state_after : State (List ℕ) → List Entry → State (List ℕ)
state_after s [] = s
state_after s (entry ∷ entries) = state_after (next_state s entry) entries

-- the last damage that a history reports, given the damage before it
abbrev pub harm_after : ℕ → List Entry → ℕ
harm_after harmed [] = harmed
harm_after harmed (entry ∷ entries) = harm_after (harm entry.1.reply) entries

-- the position of a history: the number of accepted commands up to its end
abbrev pub position : State (List ℕ) → List Entry → ℕ
position base history = (state_after base history).seq

-- a reply with an empty payload in place of its bytes
abbrev pub without_bytes : Reply → Reply
without_bytes (Bytes payload limit) = Bytes [] limit
without_bytes reply = reply

-- a call has a legal reply in a state, given the damage reported before. The reply, after the map `shown`, is the
-- machine's, unless it is a failure; after a failed device no reply reports that it works again
pub record IsAnswered (shown : Reply → Reply) (harmed : ℕ) (s : State (List ℕ)) (entry : Entry) : Type 0 where
  pub seat : entry.1.seat ≡ entry.0.seat
  pub number : entry.1.number ≡ entry.0.number
  pub reply : is_failure entry.1.reply ≡ false → shown entry.1.reply ≡ shown (ask_step s entry.0.ask).1
  pub position : entry.1.position ≡ (next_state s entry).seq
  pub harm : harmed ≤ harm entry.1.reply

-- each call of a history has a legal reply in the state that those before it left
abbrev pub LegalBy : (Reply → Reply) → ℕ → State (List ℕ) → List Entry → Type 0
LegalBy shown harmed s [] = Unit {0}
LegalBy shown harmed s (entry ∷ entries) =
    IsAnswered shown harmed s entry × LegalBy shown (harm entry.1.reply) (next_state s entry) entries

-- a history is legal from a base state
abbrev pub Legal : State (List ℕ) → List Entry → Type 0
Legal = LegalBy (λ reply. reply) 0

-- the same, but a reply of the machine with bytes may have any bytes
abbrev pub LegalButForBytes : State (List ℕ) → List Entry → Type 0
LegalButForBytes = LegalBy without_bytes 0

-- the command of a request, if it is one and its reply accepts it
abbrev pub accepted_by : Ask → Reply → List (Command (List ℕ))
accepted_by (ask.Command command) reply = if is_accepted reply then command ∷ [] else []
accepted_by (ask.Query query) reply = []

-- the accepted commands of a history, in order
abbrev pub accepted_of : List Entry → List (Command (List ℕ))
accepted_of [] = []
accepted_of (entry ∷ entries) = accepted_by entry.0.ask entry.1.reply ++ accepted_of entries
