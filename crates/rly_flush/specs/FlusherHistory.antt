-- The committer: one history of all calls received, the state of the journal, and the state after a crash.
use Rattle.std.specs.Prelude.{ℕ, ◌≡◌, ◌<◌, ◌≤◌, ◌⊎◌, ◌+◌, List, [], ◌∷◌, ◌++◌, length, ⊤}
use Rattle.std.specs.Prelude.{Option, None, IfSome, true, false}
use Rattle.std.specs.List.{AllByRecursion, zip}
use Rattle.rly_core.specs.Bounds.{IsIn}
use Rattle.rly_core.specs.declared.refusal.Refusal.TheVariants.{Broken, DeviceRead, Unsure}
use Rattle.rly_disk.specs.DiskModel.{DiskState, Later, LeavesOnly, HasFailed}
use Rattle.rly_machine.specs.declared.call.Answer.{Answer}
use Rattle.rly_machine.specs.declared.call.Call.{Call}
use Rattle.rly_machine.specs.declared.command.Command.{Command}
use Rattle.rly_machine.specs.declared.reply.Reply.TheVariants.{Refused}
use Rattle.rly_machine.specs.Fold.{AllAccepted, fold}
use Rattle.rly_machine.specs.History.{Entry, Legal, LegalButForBytes, accepted_of, harm, state_after}
use Rattle.rly_machine.specs.State.{State}
use Rattle.rly_journal.specs.Journal.{HasFailedRead, IsRound, IsShut, JournalState}
use Rattle.rly_journal.specs.Rounds.{AreLostWhereWanted, AreServed, refusals}
use Rattle.rly_journal.specs.Recovery.{Stands}
use Rattle.rly_line.specs.Batches.{BatchView, calls_put}
use Rattle.rly_line.specs.EndViews.{EndView, names_of}
use Rattle.rly_line.specs.ResponderView.{AreReported, ResponderView, calls_in}

-- the model of a flusher: the journal at first, the journal now, the batch kept for its next round, if one did not
-- fit into the last, and the calls with their answers
pub record FlusherState (D : Type 0) : Type 0 where
  pub first : JournalState D
  pub journal : JournalState D
  pub kept : Option BatchView
  pub line : ResponderView

-- the state of a journal as far as it was answered: its running state; if it is broken, this counts as many
-- commands as its position
abbrev pub answered_state : {D : Type 0} → JournalState D → State (List ℕ)
answered_state j = record j.state { seq = j.position }

-- a flusher with this journal at the end of new queues, which received no call yet and keeps none
abbrev pub new_flusher : {D : Type 0} → JournalState D → EndView → FlusherState D
new_flusher given end = record {
  first = given;
  journal = given;
  kept = None;
  line = record {
    of = end.of;
    taken = [];
    start = answered_state given;
    history = [];
    lines = end.lines;
    over = end.over;
  };
}

-- a flusher for which a wait found no batch and no seat left
abbrev pub over_now : {D : Type 0} → FlusherState D → FlusherState D
over_now f = record f { line = record f.line { over = true } }

-- the state after the history
abbrev pub state_reached : {D : Type 0} → FlusherState D → State (List ℕ)
state_reached f = state_after f.line.start f.line.history

-- calls refused since the journal broke: those of the round that broke it, and those after it
abbrev pub entries_since : ℕ → List Call → List Call → List Entry
entries_since p broke behind = zip broke (refusals Unsure p broke) ++ zip behind (refusals Broken p behind)

-- calls were received: the batch that was kept and those received after it are the calls of a round, in order, and
-- the batch that is kept now, which didn't fit
pub record IsInTurn {D : Type 0} (old new : FlusherState D) (calls : List Call) : Type 0 where
  pub came : List Call
  pub taken : new.line.taken ≡ old.line.taken ++ came
  pub in_turn : calls_put old.kept ++ came ≡ calls ++ calls_put new.kept
  pub full : IfSome new.kept (λ batch. 64 < length calls + length batch.asks)

-- 14 was answered only to asks that may take memory, and 13 only to a Fetch of bytes; or either to all calls, if a
-- segment is due that was not opened
abbrev pub AreLostOrShut : {D : Type 0} → JournalState D → JournalState D → List Call → List Answer → Type 0
AreLostOrShut old new calls given = AreLostWhereWanted old.state (zip calls given) ⊎ IsShut old new calls given

-- one round: 1 to 64 calls, first those of the batch that was kept, were answered by one round of the journal
pub record IsOneRound {D : Type 0} (state : D → DiskState) (old new : FlusherState D) : Type 0 where
  pub calls : List Call
  pub given : List Answer
  pub count : IsIn 1 64 (length calls)
  pub in_turn : IsInTurn old new calls
  pub history : new.line.history ≡ old.line.history ++ zip calls given
  pub round : IsRound state old.journal new.journal calls given
  pub lost : AreLostOrShut old.journal new.journal calls given

-- the cause of a reported failure: 12 if a device call failed in its round, 11 if the journal was broken before, 13
-- if a read failed
pub record IsTruthful (failed broken unread : Type 0) (entry : Entry) : Type 0 where
  pub unsure : entry.1.reply ≡ Refused Unsure → failed
  pub broken_before : entry.1.reply ≡ Refused Broken → broken
  pub unreadable : entry.1.reply ≡ Refused DeviceRead → unread

-- the history grew, and each failure reported in the new part has its cause
pub record GrewBy (failed broken unread : Type 0) (before after : List Entry) : Type 0 where
  pub added : List Entry
  pub history : after ≡ before ++ added
  pub truthful : AllByRecursion (IsTruthful failed broken unread) added

-- of a round: a device call failed in it, the journal was broken at its start, or a read failed in it
abbrev pub GrewInRound : {D : Type 0} → (D → DiskState) → FlusherState D → FlusherState D → Type 0
GrewInRound state old new =
    GrewBy (HasFailed (state old.journal.disk) (state new.journal.disk)) (old.journal.broken ≡ true)
    (HasFailedRead (state old.journal.disk) (state new.journal.disk)) old.line.history new.line.history

-- of rounds: a device call failed since, the journal was broken at their start, or a read failed since
abbrev pub GrewInRounds : {D : Type 0} → (D → DiskState) → FlusherState D → FlusherState D → Type 0
GrewInRounds state old new =
    GrewBy (HasFailed (state old.journal.disk) (state new.journal.disk))
    ((old.journal.broken ≡ true) ⊎ HasFailed (state old.journal.disk) (state new.journal.disk))
    (HasFailedRead (state old.journal.disk) (state new.journal.disk)) old.line.history new.line.history

-- none of them was refused because the journal broke, in the round in which it did or after it
abbrev pub AreHarmless : List Entry → Type 0
AreHarmless entries = AllByRecursion (λ entry. harm entry.1.reply ≡ 0) entries

-- the round whose commands may or may not be durable: that of these calls, answered now and, if the journal broke
-- in it, each refused; if the journal was broken before, the round that broke it, which is the first that was
-- refused so
abbrev pub IsDoubtful : {D : Type 0} → FlusherState D → FlusherState D → List Call → Type 0
IsDoubtful old new calls =
    ((old.journal.broken ≡ false) × (round : List Entry) × (new.line.history ≡ old.line.history ++ round)
    × (calls_in round ≡ calls)
    × (new.journal.broken ≡ true
    → (1 ≤ length calls) × (round ≡ zip calls (refusals Unsure old.journal.position calls))))
    ⊎ ((old.journal.broken ≡ true) × (before : List Entry) × (behind : List Call)
    × (old.line.history ≡ before ++ entries_since old.journal.position calls behind) × (1 ≤ length calls)
    × AreHarmless before)

-- the state after a crash at any moment from old to new: the state after the history before, or that state with the
-- commands of one round
pub record IsCrashSafe {D : Type 0} (state : D → DiskState) (old new : FlusherState D) : Type 0 where
  pub calls : List Call
  pub doubtful : IsDoubtful old new calls
  pub given : List Answer
  pub target : State (List ℕ)
  pub served : AreServed (state old.journal.disk) calls given (state_reached old) target
  pub leaves : LeavesOnly (state old.journal.disk) (state new.journal.disk)
      (λ image. Stands image (state_reached old) ⊎ Stands image target)
  pub running : new.journal.broken ≡ false → target ≡ new.journal.state

-- the state after the accepted commands of a history
abbrev pub fold_of_history : State (List ℕ) → List Entry → State (List ℕ)
fold_of_history start history = fold length start (accepted_of history)

-- the journal broke in a round: its calls were refused as unsure, none before them was, and each after them was
-- refused, since the journal was broken
pub record IsBreaking (before round rest : List Entry) : Type 0 where
  pub some : 1 ≤ length round
  pub unsure : AllByRecursion (λ entry. entry.1.reply ≡ Refused Unsure) round
  pub harmless : AreHarmless before
  pub broken : AllByRecursion (λ entry. entry.1.reply ≡ Refused Broken) rest

-- the state after a round that was being written: that of the commands that the machine accepts after the history
-- before it. They were answered so, or the journal broke in it
pub record IsWritten (disk : DiskState) (start : State (List ℕ)) (before round rest : List Entry) (s : State (List ℕ))
    : Type 0 where
  pub given : List Answer
  pub served : AreServed disk (calls_in round) given (fold_of_history start before) s
  pub answered : (s ≡ fold_of_history start (before ++ round)) ⊎ IsBreaking before round rest

-- An image of the disk after a crash in a round of a history: it represents a prefix of the accepted commands, all
-- those before that round, with or without those of the round. So it has each command accepted earlier
pub record IsLeftIn (disk : DiskState) (start : State (List ℕ)) (earlier history : List Entry) (image : List ℕ)
    : Type 0 where
  pub before : List Entry
  pub round : List Entry
  pub rest : List Entry
  pub whole : history ≡ before ++ (round ++ rest)
  pub holds : (more : List (Command (List ℕ))) × (accepted_of before ≡ accepted_of earlier ++ more)
  pub stands : Stands image (fold_of_history start before)
      ⊎ ((s : State (List ℕ)) × IsWritten disk start before round rest s × Stands image s)

-- a crash now keeps all that was accepted
abbrev pub KeepsAccepted : DiskState → State (List ℕ) → List Entry → Type 0
KeepsAccepted disk start history = (image : List ℕ) → disk.images image → IsLeftIn disk start history history image

-- the invariant at each exit: there is one history of the calls received
pub record IsOneHistory {D : Type 0} (state : D → DiskState) (f : FlusherState D) : Type 0 where
  -- its calls are those, in the order of receipt, except the batch that is kept, which was received last
  pub calls : calls_in f.line.history ++ calls_put f.kept ≡ f.line.taken
  -- it is legal from the state of the journal at first, on a disk that isn't honest except for the bytes of Fetches
  pub start : f.line.start ≡ answered_state f.first
  pub as_given : f.first.broken ≡ false → f.line.start ≡ f.first.state
  pub legal : (state f.first.disk).honest → Legal f.line.start f.line.history
  pub legal_but_for_bytes : LegalButForBytes f.line.start f.line.history
  -- the journal is in the state after its accepted commands
  pub position_is : f.journal.position ≡ f.line.start.seq + length (accepted_of f.line.history)
  pub state_is : f.journal.broken ≡ false → f.journal.state ≡ fold length f.line.start (accepted_of f.line.history)
  -- while the journal isn't broken, no call was refused as unsure or broken
  pub harmless : f.journal.broken ≡ false → AreHarmless f.line.history
  pub accepted : AllAccepted length f.line.start (accepted_of f.line.history)
  -- one that was broken at first is unchanged
  pub still : f.first.broken ≡ true → f.journal ≡ f.first
  pub later : Later (state f.first.disk) (state f.journal.disk)
  -- each seat was sent that start and a prefix of it, with all calls of the seat, unless the seat was dropped
  pub told : AreReported f.line.start f.line.history f.line.lines
  -- a crash now keeps all that was answered as accepted
  pub kept : (state f.journal.disk).honest → f.first.broken ≡ false
      → KeepsAccepted (state f.journal.disk) f.line.start f.line.history

-- one round, and the state after a crash at any moment of it
pub record IsMadeRound {D : Type 0} (state : D → DiskState) (old new : FlusherState D) : Type 0 where
  pub one : IsOneRound state old new
  pub any_moment : (state old.journal.disk).honest → old.first.broken ≡ false → IsCrashSafe state old new

-- a round may follow: the journal isn't broken, or a received batch is left to be answered
abbrev pub MayGoOn : {D : Type 0} → FlusherState D → Type 0
MayGoOn f = f.journal.broken ≡ true → f.kept ≡ None → ⊥

-- if there are later rounds, they may follow
abbrev pub MayFollow : {D : Type 0} → FlusherState D → List (FlusherState D) → Type 0
MayFollow f [] = ⊤
MayFollow f (later ∷ rounds) = MayGoOn f

-- one round after the other, from old to last, and nothing between them: the list has the state after each
abbrev pub AreRounds : {D : Type 0} → (D → DiskState) → FlusherState D → List (FlusherState D) → FlusherState D → Type 0
AreRounds state old [] last = last ≡ record old { line = record old.line { over = last.line.over } }
AreRounds state old (next ∷ rounds) last =
    IsMadeRound state old next × MayFollow next rounds × AreRounds state next rounds last

-- The state after a crash at any moment since a flusher was at f, up to the last: the crash was in a round of the
-- history. The state has a prefix of the accepted commands: all those accepted up to f and all those before that
-- round, with or without those of the round
pub record IsKeptSince {D : Type 0} (state : D → DiskState) (start : State (List ℕ)) (last f : FlusherState D)
    : Type 0 where
  pub went_on : (more : List Entry) × (last.line.history ≡ f.line.history ++ more)
  pub leaves : LeavesOnly (state f.journal.disk) (state last.journal.disk)
      (IsLeftIn (state f.journal.disk) start f.line.history last.line.history)

-- the result of a flusher's rounds
pub record IsContinued {D : Type 0} (state : D → DiskState) (old new : FlusherState D) : Type 0 where
  pub first : new.first ≡ old.first
  pub of : new.line.of ≡ old.line.of
  pub start : new.line.start ≡ old.line.start
  pub names : names_of new.line.lines ≡ names_of old.line.lines
  pub history : IsOneHistory state new
  -- the history grew, and reports a failure only if one occurred
  pub grew : GrewInRounds state old new
  pub broke : new.journal.broken ≡ true
      → (old.journal.broken ≡ true) ⊎ HasFailed (state old.journal.disk) (state new.journal.disk)
  pub later : Later (state old.journal.disk) (state new.journal.disk)
  -- they were made one after the other
  pub rounds : List (FlusherState D)
  pub in_turn : AreRounds state old rounds new
  -- the state after a crash since the first moment, and since the end of each of them: no later crash loses a
  -- command accepted up to there
  pub any_moment : (state old.journal.disk).honest → old.first.broken ≡ false
      → AllByRecursion (IsKeptSince state old.line.start new) (old ∷ rounds)

-- rounds were made until no batch and no seat was left, or until the journal was broken, and no batch is kept
pub record IsServed {D : Type 0} (state : D → DiskState) (old last : FlusherState D) : Type 0 where
  pub rounds : IsContinued state old last
  pub none_kept : last.kept ≡ None
  pub ended : (last.line.over ≡ true) ⊎ (last.journal.broken ≡ true)
