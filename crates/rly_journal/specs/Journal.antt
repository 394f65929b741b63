-- The state of a journal in contracts, and the effect of a round on it.
use Rattle.std.specs.Prelude.{◌≡◌, ◌⊎◌, ◌+◌, ◌<◌, ◌++◌, [], ℕ, List, Bool, true}
use Rattle.std.specs.Prelude.{false, not, Option, None, IfSome, IsSome}
use Rattle.std.specs.List.{AllByRecursion, list_any, zip}
use Rattle.rly_core.specs.declared.refusal.Refusal.{Refusal}
use Rattle.rly_core.specs.declared.refusal.Refusal.TheVariants.{Broken, DeviceRead, OutOfMemory, Unsure}
use Rattle.rly_disk.specs.DiskModel.{DiskState, HasFailed, IsSpent, LeavesOnly}
use Rattle.rly_disk.specs.Trace.{Makes, MakesFront}
use Rattle.rly_machine.specs.declared.call.Answer.{Answer}
use Rattle.rly_machine.specs.declared.call.Call.{Call}
use Rattle.rly_machine.specs.declared.command.Ask.{Ask}
use Rattle.rly_machine.specs.declared.command.Ask.TheVariants.{Command, Query}
use Rattle.rly_machine.specs.History.{accepted_of}
use Rattle.rly_machine.specs.State.{State}
use Rattle.rly_record.specs.Spelling.{HasRecord}
use Rattle.rly_disk.specs.Trials.{Tries, Try}
use Rattle.rly_journal.specs.Rounds.{AreFetches, AreLostWhereWanted, AreServed, refusals}
use Rattle.rly_journal.specs.declared.tail.Tail.{Tail}
use Rattle.rly_journal.specs.Log.{IsFull}
use Rattle.rly_journal.specs.Recovery.{Stands}
use Rattle.rly_journal.specs.RoundCalls.{IsRenewal, Renewal, victim_reads_for, round_tries, failed_head_tries}

-- a journal: its device and the end of the journal there, its running state, the number of accepted commands up to the
-- last reply, and whether it is broken
pub record JournalState (D : Type 0) : Type 0 where
  pub disk : D
  pub tail : Tail
  pub state : State (List ℕ)
  pub position : ℕ
  pub broken : Bool

-- true if a request is a command
abbrev pub is_command : Ask → Bool
is_command (Command _) = true
is_command (Query _) = false

-- true if a round has a command
abbrev pub holds_command : List Call → Bool
holds_command calls = list_any (λ call. is_command call.ask) calls

-- a new segment is due before a round of these calls
abbrev pub IsDueFor : {D : Type 0} → JournalState D → List Call → Type 0
IsDueFor j calls = (holds_command calls ≡ true) × IsFull j.tail

-- no write and no sync failed: the calls are served, and the journal isn't broken
pub record Goes {D : Type 0} (state : D → DiskState) (old new : JournalState D) (calls : List Call)
    (given : List Answer) : Type 0 where
  pub broken : new.broken ≡ false
  pub served : AreServed (state old.disk) calls given old.state new.state
  pub position : new.position ≡ new.state.seq

-- one failed: no reply confirms a command, and the journal is broken
pub record Breaks {D : Type 0} (old new : JournalState D) (calls : List Call) (given : List Answer) : Type 0 where
  pub broken : new.broken ≡ true
  pub unsure : given ≡ refusals Unsure old.position calls
  pub position : new.position ≡ old.position

-- a segment is due but was not opened: only the disk's counters changed
pub record StaysShut {D : Type 0} (old new : JournalState D) (calls : List Call) : Type 0 where
  pub due : IsDueFor old calls
  pub same : new ≡ record old { disk = new.disk }

-- after a failed allocation the reply to each call is 14; after a failed read of the victim, 13
abbrev pub IsShut : {D : Type 0} → JournalState D → JournalState D → List Call → List Answer → Type 0
IsShut old new calls given =
    StaysShut old new calls
    × ((given ≡ refusals OutOfMemory old.position calls) ⊎ (given ≡ refusals DeviceRead old.position calls))

-- the disk's failure counter rose by the number of failed reads
abbrev pub OnlyReadsFailed : DiskState → DiskState → Type 0
OnlyReadsFailed old new = new.failures + old.failed_reads ≡ old.failures + new.failed_reads

-- a read failed: `failed_reads` rose. Counters at their maximum value also count as a rise
abbrev pub HasFailedRead : DiskState → DiskState → Type 0
HasFailedRead old new = (old.failed_reads < new.failed_reads) ⊎ IsSpent new

-- the possible results of a round, on a disk with this view
abbrev pub IsRound : {D : Type 0} → (D → DiskState) → JournalState D → JournalState D → List Call → List Answer → Type 0
IsRound state old new calls given =
    ((old.broken ≡ true) × (given ≡ refusals Broken old.position calls) × (new ≡ old))
    ⊎ ((old.broken ≡ false) × IsShut old new calls given × OnlyReadsFailed (state old.disk) (state new.disk))
    ⊎ ((old.broken ≡ false) × Goes state old new calls given × OnlyReadsFailed (state old.disk) (state new.disk))
    ⊎ ((old.broken ≡ false) × Breaks old new calls given × HasFailed (state old.disk) (state new.disk))

-- a crash at any moment of a round leaves an image that recovers to the state before it, or to the state after its
-- accepted commands, which is the running state if the journal isn't broken
pub record IsSafe {D : Type 0} (state : D → DiskState) (old new : JournalState D) (calls : List Call) : Type 0 where
  pub given : List Answer
  pub target : State (List ℕ)
  pub served : AreServed (state old.disk) calls given old.state target
  pub leaves : LeavesOnly (state old.disk) (state new.disk) (λ image. Stands image old.state ⊎ Stands image target)
  pub running : new.broken ≡ false → target ≡ new.state

-- the device calls of a round that opened no segment although one was due, by its refusal of all calls: the reads of
-- the victim before an allocation failed, or up to the failed one; or all of them, and the calls of the head up to the
-- failed one, after which the journal is broken
pub record MakesShut {D : Type 0} (state : D → DiskState) (old new : JournalState D) (calls : List Call)
    (refusal : Refusal) : Type 0 where
  pub due : IsDueFor old calls
  pub r : Renewal
  pub renewal : IsRenewal (state old.disk) old.tail old.state r
  pub makes :
      ((refusal ≡ OutOfMemory) × (new.broken ≡ false)
      × MakesFront state (victim_reads_for old.tail r) true old.disk new.disk)
      ⊎ ((refusal ≡ DeviceRead) × (new.broken ≡ false)
      × Makes state (victim_reads_for old.tail r) false old.disk new.disk)
      ⊎ ((refusal ≡ Unsure) × (new.broken ≡ true) × Tries state (failed_head_tries old.tail r) old.disk new.disk)

-- a round of a journal that isn't broken: its calls were served, with these device calls only: all of a segment that is
-- opened; the append of the accepted commands, all calls, or up to the first failure if the journal is then broken; and
-- if it isn't, the reads for its Fetches, each tried
pub record MakesRound {D : Type 0} (state : D → DiskState) (old new : JournalState D) (calls : List Call)
    (before after : List Answer) : Type 0 where
  pub given : List Answer
  pub told : new.broken ≡ false → after ≡ before ++ given
  pub served : AreServed (state old.disk) calls given old.state new.state
  pub recorded : AllByRecursion HasRecord (accepted_of (zip calls given))
  -- the segment that was opened
  pub opened : Option Renewal
  pub renewal : IfSome opened (IsRenewal (state old.disk) old.tail old.state)
  pub due : IsSome opened → IsDueFor old calls
  pub unless : opened ≡ None → IsDueFor old calls → ⊥
  pub wanted : AreLostWhereWanted old.state (zip calls given)
  pub fetches : List Try
  pub read : new.broken ≡ false → AreFetches old.state (zip calls given) fetches
  pub unread : new.broken ≡ true → fetches ≡ []
  pub makes : Tries state
      (round_tries old.tail opened (accepted_of (zip calls given)) (not new.broken) ++ fetches) old.disk new.disk
