-- The replies of a round; payloads are read from the device.
use Rattle.std.specs.Prelude.{◌≡◌, ◌⊎◌, ◌++◌, ℕ, List, [], ◌∷◌, length, map, true, None}
use Rattle.std.specs.List.{AllByRecursion, zip}
use Rattle.rly_core.specs.declared.refusal.Refusal.{Refusal}
use Rattle.rly_core.specs.declared.refusal.Refusal.TheVariants.{DeviceRead, OutOfMemory}
use Rattle.rly_disk.specs.DiskModel.{DiskState}
use Rattle.rly_machine.specs.declared.call.Answer.{Answer}
use Rattle.rly_machine.specs.declared.call.Call.{Call}
use Rattle.rly_machine.specs.declared.command.Ask.{Ask}
use Rattle.rly_machine.specs.declared.command.Ask.TheVariants as ask
use Rattle.rly_machine.specs.declared.command.Command.{Command}
use Rattle.rly_machine.specs.declared.command.Command.TheVariants.{Take, Pick, Release}
use Rattle.rly_machine.specs.declared.command.Query.TheVariants.{Fetch, Window, Show}
use Rattle.rly_machine.specs.declared.reply.Reply.{Reply}
use Rattle.rly_machine.specs.declared.reply.Reply.TheVariants.{Refused}
use Rattle.rly_machine.specs.History.{Entry, Legal, LegalButForBytes, is_failure, next_state, state_after}
use Rattle.rly_machine.specs.Pick.{pick_refusal}
use Rattle.rly_machine.specs.Query.{HasBytes, fetch_reply, item_of, query_reply}
use Rattle.rly_machine.specs.State.{State}
use Rattle.rly_machine.specs.Take.{take_refusal}
use Rattle.rly_disk.specs.Trials.{Try}
use Rattle.rly_journal.specs.Fetches.{AreFetching}

-- a Fetch
abbrev pub IsFetch : Ask → Type 0
IsFetch (ask.Command command) = ⊥
IsFetch (ask.Query (Fetch hop number)) = Unit {0}
IsFetch (ask.Query (Window hop)) = ⊥
IsFetch (ask.Query (Show hop)) = ⊥

-- the failures in a reply are a failed allocation and, for a Fetch, a failed read
abbrev pub OnlyLost : Entry → Type 0
OnlyLost entry = is_failure entry.1.reply ≡ true
    → (entry.1.reply ≡ Refused OutOfMemory) ⊎ ((entry.1.reply ≡ Refused DeviceRead) × IsFetch entry.0.ask)

-- the replies to calls in order from a state: each is the machine's in the running state, except for the bytes of a
-- Fetch on a disk that isn't honest, or such a failure
pub record AreServed (disk : DiskState) (calls : List Call) (given : List Answer) (s t : State (List ℕ)) : Type 0 where
  pub count : length given ≡ length calls
  pub legal : LegalButForBytes s (zip calls given)
  pub exact : disk.honest → Legal s (zip calls given)
  pub only : AllByRecursion OnlyLost (zip calls given)
  pub state : t ≡ state_after s (zip calls given)

-- a command that may need an allocation: a Take or a Pick that passes all checks
abbrev pub MayWantRoom : State (List ℕ) → Command (List ℕ) → Type 0
MayWantRoom s (Take peer number hop stamp limit payload) =
    take_refusal length s peer number hop stamp limit (length payload) ≡ None
MayWantRoom s (Pick hop now) = pick_refusal s hop now ≡ None
MayWantRoom s (Release hop number) = ⊥

-- a request that may need an allocation: such a command, or a Fetch of a payload that has bytes
abbrev pub MayWantMemory : State (List ℕ) → Ask → Type 0
MayWantMemory s (ask.Command command) = MayWantRoom s command
MayWantMemory s (ask.Query query) = HasBytes (query_reply s query)

-- a request that may get the reply 13: a Fetch of a payload that has bytes
abbrev pub MayWantBytes : State (List ℕ) → Ask → Type 0
MayWantBytes s (ask.Command command) = ⊥
MayWantBytes s (ask.Query query) = HasBytes (query_reply s query)

-- the reply 14 occurs only for requests that may need an allocation, and 13 only for such a Fetch
abbrev pub AreLostWhereWanted : State (List ℕ) → List Entry → Type 0
AreLostWhereWanted s [] = Unit {0}
AreLostWhereWanted s (entry ∷ entries) =
    (entry.1.reply ≡ Refused OutOfMemory → MayWantMemory s entry.0.ask)
    × (entry.1.reply ≡ Refused DeviceRead → MayWantBytes s entry.0.ask)
    × AreLostWhereWanted (next_state s entry) entries

-- if the reply 13 occurs, this property holds
abbrev pub AreUnreadWhere : Type 0 → List Entry → Type 0
AreUnreadWhere Holds entries = AllByRecursion (λ entry. entry.1.reply ≡ Refused DeviceRead → Holds) entries

-- the reads of a request with this reply: those of a Fetch
abbrev pub AreReadsOf : State (List ℕ) → Ask → Reply → List Try → Type 0
AreReadsOf s (ask.Query (Fetch hop number)) told rows = AreFetching (fetch_reply (item_of s hop number)) told rows
AreReadsOf s _ told rows = rows ≡ []

-- the reads of calls in order, each in the state that those before it left
abbrev pub AreFetches : State (List ℕ) → List Entry → List Try → Type 0
AreFetches s [] rows = rows ≡ []
AreFetches s (entry ∷ entries) rows =
    (first : List Try) × (rest : List Try) × (rows ≡ first ++ rest) × AreReadsOf s entry.0.ask entry.1.reply first
    × AreFetches (next_state s entry) entries rest

-- the reply that refuses a call
abbrev pub refusal_of : Refusal → ℕ → Call → Answer
refusal_of refusal position call =
    record { seat = call.seat; number = call.number; reply = Refused refusal; position = position }

-- all calls are refused, with one refusal and at one position
abbrev pub refusals : Refusal → ℕ → List Call → List Answer
refusals refusal position calls = map (refusal_of refusal position) calls
