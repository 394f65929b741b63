-- Helpers of private functions and invariants: the state of a flusher.
use Rattle.std.specs.Prelude.{◌≡◌, ◌+◌, ◌<◌, ◌≤◌, List, [], ◌++◌, map, length, vec_capacity}
use Rattle.std.specs.Prelude.{Option, IfSome, None, true, false}
use Rattle.std.specs.List.{flat_map, zip}
use Rattle.std.specs.declared.snapshot.Snapshot.{Snapshot}
use Rattle.rly_core.specs.Bounds.{IsIn}
use Rattle.rly_disk.specs.DiskModel.{DiskState, Later, Settled}
use Rattle.rly_machine.specs.declared.call.Answer.{Answer}
use Rattle.rly_machine.specs.declared.call.Call.{Call}
use Rattle.rly_machine.specs.History.{Legal, LegalButForBytes, harm_after, position}
use Rattle.rly_journal.specs.Journal.{HasFailedRead, IsRound, IsSafe, JournalState}
use Rattle.rly_journal.specs.Recovery.{Stands}
use Rattle.rly_journal.specs.Rounds.{AreUnreadWhere}
use Rattle.rly_line.specs.Batches.{AnswersView, BatchView, calls_in_batch, calls_put, no_answers}
use Rattle.rly_line.specs.ResponderView.{IsOneResponder, ResponderView, calls_in}
use Rattle.rly_flush.specs.declared.round_calls.Lists.{Lists}
use Rattle.rly_flush.specs.FlusherHistory.{FlusherState, IsCrashSafe, answered_state, state_reached}

-- the calls of the batches of a round, for the history
abbrev pub calls_said : List (Snapshot BatchView) → List Call
calls_said said = flat_map (λ s. calls_in_batch s.value) said

-- the destinations of their answers, before there are any
abbrev pub answers_said : List (Snapshot BatchView) → List AnswersView
answers_said said = map (λ s. no_answers s.value) said

-- there is room for one round
pub record HasRoundRoom (lists : Lists) : Type 0 where
  pub calls_room : 64 ≤ vec_capacity lists.calls
  pub said_room : 64 ≤ vec_capacity lists.said
  pub wanted_room : 64 ≤ vec_capacity lists.wanted
  pub answers_room : 64 ≤ vec_capacity lists.answers

-- and its lists are empty
pub record IsRoundReady (lists : Lists) : Type 0 where
  pub calls_empty : lists.calls.items ≡ []
  pub said_empty : lists.said.items ≡ []
  pub wanted_empty : lists.wanted.items ≡ []
  pub answers_empty : lists.answers.items ≡ []
  pub room : HasRoundRoom lists

-- these calls are those of a round: of the batch that was kept and of received batches; the remaining one didn't
-- fit
pub record AreCollected (old new : ResponderView) (kept left : Option BatchView) (calls : List Call) : Type 0 where
  pub came : List Call
  pub line : new ≡ record old { taken = old.taken ++ came }
  pub in_turn : calls_put kept ++ came ≡ calls ++ calls_put left
  pub full : IfSome left (λ batch. 64 < length calls + length batch.asks)

-- the calls of a round stay those of the batches taken so far: by each way on which they were collected, more were
-- taken, and at most the last of them didn't fit
abbrev pub StaysCollected : ResponderView → ResponderView → Option BatchView → List Call → List Call → Type 0
StaysCollected mid new left before calls = (old : ResponderView) (kept : Option BatchView)
    → AreCollected old mid kept None before → AreCollected old new kept left calls

-- the lists of a round that has 1 to 64 calls so far, and no answers yet
pub record IsGathering (lists : Lists) : Type 0 where
  pub said : calls_said lists.said.items ≡ lists.calls.items
  pub wanted : lists.wanted.items ≡ answers_said lists.said.items
  pub count : IsIn 1 64 (length lists.calls.items)
  pub batches : length lists.said.items ≤ length lists.calls.items
  pub answers : lists.answers.items ≡ []
  pub room : HasRoundRoom lists

-- the properties of a round of the journal
pub record IsRounded {D : Type 0} (state : D → DiskState) (old new : JournalState D) (calls : List Call)
    (given : List Answer) : Type 0 where
  pub round : IsRound state old new calls given
  pub unread : AreUnreadWhere (HasFailedRead (state old.disk) (state new.disk)) (zip calls given)
  pub any_moment : (state old.disk).honest → old.broken ≡ false → IsSafe state old new calls
  pub durable : (state new.disk).honest → new.broken ≡ false
      → Settled (state new.disk) × Stands (state new.disk).seen new.state
  pub later : Later (state old.disk) (state new.disk)

-- the invariant of a flusher
pub record IsFlushing {D : Type 0} (state : D → DiskState) (f : FlusherState D) : Type 0 where
  pub responding : IsOneResponder f.line
  pub start : f.line.start ≡ answered_state f.first
  pub as_given : f.first.broken ≡ false → f.line.start ≡ f.first.state
  -- there is one history, of the calls received, in order, except the batch that is kept
  pub answered : calls_in f.line.history ++ calls_put f.kept ≡ f.line.taken
  pub legal : (state f.first.disk).honest → Legal f.line.start f.line.history
  pub legal_but_for_bytes : LegalButForBytes f.line.start f.line.history
  -- the journal is in the state after the history
  pub position_is : f.journal.position ≡ position f.line.start f.line.history
  pub running : f.journal.broken ≡ false → f.journal.state ≡ state_reached f
  pub unharmed : f.journal.broken ≡ false → harm_after 0 f.line.history ≡ 0
  pub still : f.first.broken ≡ true → f.journal ≡ f.first
  pub later : Later (state f.first.disk) (state f.journal.disk)
  -- the state after a crash now, on an honest disk
  pub safe : (state f.journal.disk).honest → f.first.broken ≡ false → IsCrashSafe state f f
