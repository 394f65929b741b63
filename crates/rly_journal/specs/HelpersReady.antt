-- Helpers: the results of making room for a round, and of serving its calls. No public contract cites them; `Journal`
-- defines a round.
use Rattle.std.specs.Prelude.{◌≡◌, ◌⊎◌, ◌+◌, ◌≤◌, ◌++◌, [], Bool, true, false, not, Result, Ok, Err, List}
use Rattle.std.specs.Prelude.{Option, None, IfSome, IsSome}
use Rattle.std.specs.List.{AllByRecursion, zip}
use Rattle.rly_core.specs.declared.refusal.Refusal.{Refusal}
use Rattle.rly_core.specs.declared.refusal.Refusal.TheVariants.{Unsure}
use Rattle.rly_disk.specs.DiskModel.{DiskState, Later, LeavesOnly}
use Rattle.rly_disk.specs.Trace.{Makes}
use Rattle.rly_machine.specs.declared.call.Answer.{Answer}
use Rattle.rly_machine.specs.declared.call.Call.{Call}
use Rattle.rly_machine.specs.History.{accepted_of}
use Rattle.rly_record.specs.Spelling.{HasRecord}
use Rattle.rly_disk.specs.Trials.{AreReads, Tries, Try}
use Rattle.rly_journal.specs.OpenCalls.{log_calls}
use Rattle.rly_journal.specs.GroupAddresses.{Commands}
use Rattle.rly_journal.specs.Journal.{IsDueFor, JournalState, MakesShut}
use Rattle.rly_journal.specs.Log.{IsSameHead}
use Rattle.rly_journal.specs.Recovery.{Stands}
use Rattle.rly_journal.specs.RoundCalls.{IsRenewal, Renewal, round_tries}
use Rattle.rly_journal.specs.Rounds.{AreFetches, AreLostWhereWanted, AreServed, refusals}

-- no segment was due, or one was opened
pub record HasOpenedIfDue {D : Type 0} (state : D → DiskState) (old new : JournalState D)
    (calls : List Call) : Type 0 where
  -- the segment that was opened
  pub opened : Option Renewal
  pub renewal : IfSome opened (IsRenewal (state old.disk) old.tail old.state)
  pub due : IsSome opened → IsDueFor old calls
  pub unless : opened ≡ None → IsDueFor old calls → ⊥
  pub calm : (IsDueFor old calls → ⊥) → new ≡ old
  pub next : IsDueFor old calls → new.tail.generation ≡ old.tail.generation + 1
  -- with it, the commands logged after it
  pub logs : (commands : Commands) (whole : Bool) (end : D)
      → Makes state (log_calls new.tail.gate commands) whole new.disk end
      → Tries state (round_tries old.tail opened commands whole) old.disk end

-- the result of making room for a round: there is room; or a segment was due, and an allocation for it or a read
-- failed, or a write or a sync did
abbrev pub IsRoom : {A D : Type 0} → (D → DiskState) → JournalState D → JournalState D → List Call
    → Result A Refusal → Type 0
IsRoom state old new calls (Ok done) =
    (new.broken ≡ false) × (IsDueFor new calls → ⊥) × HasOpenedIfDue state old new calls
IsRoom state old new calls (Err refusal) =
    (new ≡ record old { disk = new.disk; broken = new.broken }) × MakesShut state old new calls refusal

-- all effects of making room
pub record IsReadied {A D : Type 0} (state : D → DiskState) (old new : JournalState D) (calls : List Call)
    (result : Result A Refusal) : Type 0 where
  pub same : new.state ≡ old.state
  pub position : new.position ≡ old.position
  pub came : IsRoom state old new calls result
  pub any_moment : (state old.disk).honest
      → LeavesOnly (state old.disk) (state new.disk) (λ image. Stands image old.state)
  pub syncs : (state new.disk).syncs ≤ (state old.disk).syncs + 3
  pub later : Later (state old.disk) (state new.disk)

-- all effects of serving the calls of a round if no segment is due: their accepted commands were logged, and if no call
-- failed, the payloads for their Fetches were read
pub record IsServed {D : Type 0} (state : D → DiskState) (old new : JournalState D) (calls : List Call)
    (before after : List Answer) : Type 0 where
  -- their replies, or the replies that a failure replaced
  pub given : List Answer
  pub told : new.broken ≡ false → after ≡ before ++ given
  pub counted : new.broken ≡ false → new.position ≡ new.state.seq
  -- if a write or a sync failed, no reply confirms a command
  pub unsure : new.broken ≡ true
      → (after ≡ before ++ refusals Unsure old.position calls) × (new.position ≡ old.position)
  pub served : AreServed (state old.disk) calls given old.state new.state
  pub recorded : AllByRecursion HasRecord (accepted_of (zip calls given))
  pub wanted : AreLostWhereWanted old.state (zip calls given)
  pub fetches : List Try
  pub read : new.broken ≡ false → AreFetches old.state (zip calls given) fetches
  pub unread : new.broken ≡ true → fetches ≡ []
  pub reads : AreReads fetches
  -- the disk after they were logged
  pub mid : D
  pub makes : Makes state (log_calls old.tail.gate (accepted_of (zip calls given))) (not new.broken) old.disk mid
  pub tries : Tries state fetches mid new.disk
  pub head : IsSameHead old.tail new.tail
  pub any_moment : (state old.disk).honest
      → LeavesOnly (state old.disk) (state new.disk) (λ image. Stands image old.state ⊎ Stands image new.state)
