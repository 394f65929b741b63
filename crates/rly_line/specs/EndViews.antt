-- The receiving end of all queues.
use Rattle.std.specs.Prelude.{ℕ, ◌≡◌, ◌<◌, ◌+◌, Bool, List, [], ◌∷◌, length, map, slice_index_or, true, false}
use Rattle.std.specs.Prelude.{Option, Some, None}
use Rattle.rly_machine.specs.declared.call.Call.{Call}
use Rattle.rly_line.specs.Replies.{ReplyId, ReplyEndView}
use Rattle.rly_line.specs.GhostHistory.{HistoryView}
use Rattle.rly_line.specs.Submission.{LineId}

-- the model: the queue from which it receives and the number of batches in it, the calls received, the history sent
-- to each seat, and whether a wait found no batch and no seat left
pub record EndView : Type 0 where
  pub of : LineId
  pub capacity : ℕ
  pub taken : List Call
  pub lines : List ReplyEndView
  pub over : Bool

-- an empty answer queue. It holds one batch of answers
abbrev pub new_reply_end : Option ReplyId → ℕ → ReplyEndView
new_reply_end of number = record { of = of; seat = number; capacity = 1; base = None; told = []; gone = false }

-- such queues, of seats that are numbered consecutively, from a number on
abbrev pub new_reply_ends : ℕ → List (Option ReplyId) → List ReplyEndView
new_reply_ends number [] = []
new_reply_ends number (of ∷ more) = new_reply_end of number ∷ new_reply_ends (number + 1) more

-- their identities
abbrev pub names_of : List ReplyEndView → List (Option ReplyId)
names_of lines = map (λ line. line.of) lines

-- the answer queue of a seat
abbrev pub reply_end_at : List ReplyEndView → ℕ → ReplyEndView
reply_end_at lines seat = slice_index_or lines seat (new_reply_end None seat)

-- a queue after a history was sent, and after its seat was found dropped
abbrev pub with_history : ReplyEndView → HistoryView → ReplyEndView
with_history line story = record line { base = Some story.start; told = story.history }

abbrev pub with_gone : ReplyEndView → ReplyEndView
with_gone line = record line { gone = true }

-- each queue is that of the seat at its index
abbrev pub AreInPlace : List ReplyEndView → Type 0
AreInPlace lines = (seat : ℕ) → seat < length lines → (reply_end_at lines seat).seat ≡ seat

-- queues with the same histories, though other seats may have been found dropped
abbrev pub TellTheSame : List ReplyEndView → List ReplyEndView → Type 0
TellTheSame lines told = map with_gone lines ≡ map with_gone told

-- the model of the receiving end once it is closed
pub record ClosedView : Type 0 where
  pub of : LineId
  pub taken : List Call
  pub lines : List ReplyEndView
