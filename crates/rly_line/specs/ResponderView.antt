-- The answering thread: the history sent to each seat is a prefix of one legal history, of the calls received.
use Rattle.std.specs.Prelude.{ℕ, ◌≡◌, ◌<◌, ◌⊎◌, Bool, List, [], ◌++◌, All, false, length, map}
use Rattle.std.specs.Prelude.{Option, Some, None, slice_index_or}
use Rattle.rly_machine.specs.declared.call.Call.{Call}
use Rattle.rly_machine.specs.History.{Entry, LegalButForBytes}
use Rattle.rly_machine.specs.State.{State}
use Rattle.rly_line.specs.EndViews.{AreInPlace, ClosedView, EndView, TellTheSame, reply_end_at}
use Rattle.rly_line.specs.Replies.{IsPrefixOf, ReplyId, ReplyEndView, entries_of}
use Rattle.rly_line.specs.Seats.{Caller}
use Rattle.rly_line.specs.GhostHistory.{HistoryView}
use Rattle.rly_line.specs.Submission.{AreNumbered, IsBeginning, LineId, calls_of}

-- the model: the queue from which it receives calls, the calls received, the initial state, the history, the
-- history sent to each seat, and whether a wait found no batch and no seat left
pub record ResponderView : Type 0 where
  pub of : LineId
  pub taken : List Call
  pub start : State (List ℕ)
  pub history : List Entry
  pub lines : List ReplyEndView
  pub over : Bool

-- its end of all queues and its history, as one value
abbrev pub responder_view : EndView → HistoryView → ResponderView
responder_view line story = record {
  of = line.of;
  taken = line.taken;
  start = story.start;
  history = story.history;
  lines = line.lines;
  over = line.over;
}

-- the calls of a history
abbrev pub calls_in : List Entry → List Call
calls_in history = map (λ entry. entry.0) history

-- these calls were received and are not answered yet
abbrev pub AreLeft : ResponderView → List Call → Type 0
AreLeft r left = r.taken ≡ calls_in r.history ++ left

-- A queue was sent nothing, or the start and a prefix of the history. The rest has no call of its seat, unless the
-- seat was dropped
pub record IsReported (start : State (List ℕ)) (history : List Entry) (line : ReplyEndView) : Type 0 where
  pub base : (line.base ≡ None) ⊎ (line.base ≡ Some start)
  pub rest : List Entry
  pub whole : history ≡ line.told ++ rest
  pub up_to_date : line.gone ≡ false → entries_of line.seat rest ≡ []

abbrev pub AreReported : State (List ℕ) → List Entry → List ReplyEndView → Type 0
AreReported start history lines = (seat : ℕ) → seat < length lines → IsReported start history (reply_end_at lines seat)

-- the invariant of the thread
pub record IsOneResponder (r : ResponderView) : Type 0 where
  pub legal : LegalButForBytes r.start r.history
  pub waiting : (left : List Call) × AreLeft r left
  pub seated : All (λ call. call.seat.0 < length r.lines) r.taken
  pub numbered : (seat : ℕ) → AreNumbered 0 (calls_of seat r.taken)
  pub in_place : AreInPlace r.lines
  pub told : AreReported r.start r.history r.lines

-- a seat at this queue, and at the answer queue of its number
pub record IsSeatOf (of : LineId) (names : List (Option ReplyId)) (c : Caller) : Type 0 where
  pub puts : c.of ≡ of
  pub there : c.seat.0 < length names
  pub hears : c.replies ≡ slice_index_or names c.seat.0 None

-- the closed end that it left
pub record IsLeftBy (r : ResponderView) (end : ClosedView) : Type 0 where
  pub of : end.of ≡ r.of
  pub taken : end.taken ≡ r.taken
  pub told : TellTheSame end.lines r.lines

-- A seat that left, with the closed end of its queues: the calls received are a prefix of the calls that it
-- submitted, ask for ask; and the history that it knows is a prefix of the one sent to it
pub record IsReportedBy (end : ClosedView) (c : Caller) : Type 0 where
  pub begins : IsBeginning c.seat.0 end.taken c.put
  pub known : IsPrefixOf c.base (reply_end_at end.lines c.seat.0).base c.known (reply_end_at end.lines c.seat.0).told

-- a seat and its answering thread: the calls received are a prefix of the calls that it submitted, ask for ask; and
-- the history that it knows is a prefix of the one history
pub record IsAnsweredBy (r : ResponderView) (c : Caller) : Type 0 where
  pub begins : IsBeginning c.seat.0 r.taken c.put
  pub known : IsPrefixOf c.base (Some r.start) c.known r.history
