-- The queue of one seat's answers, batch by batch, under one rule: the sender sent a base state and histories, each
-- of which extends the one before by calls of other seats and then the calls of its seat's next batch. The seat
-- knows the last one that it received. The last element of a queue is its close.
use Rattle.std.specs.Prelude.{ℕ, ◌≡◌, ◌⊎◌, ◌==◌, List, [], ◌∷◌, ◌++◌, Bool, true, Option, Some, None, filter, length}
use Rattle.std.specs.List.{AllByRecursion, zip}
use mathlib.Core.Option.{some}
use lib.ListN.{get_elem?}
use Rattle.atomic_table.specs.Seated.{TableId}
use Rattle.atomic_table.specs.declared.badge.Badge.{Badge}
use Rattle.crossbeam_channel.specs.declared.flavors.array.Key.{Key}
use Rattle.rly_machine.specs.declared.call.Answer.{Answer}
use Rattle.rly_machine.specs.declared.call.Call.{Call}
use Rattle.rly_machine.specs.History.{Entry, LegalButForBytes}
use Rattle.rly_machine.specs.State.{State}
use Rattle.rly_line.specs.declared.replies.ReplyView.{ReplyView}
use Rattle.rly_line.specs.Batches.{AnswersView}
use Rattle.rly_line.specs.Submission.{AreNumbered}

-- the calls of one seat in a history, each with its answer
abbrev pub entries_of : ℕ → List Entry → List Entry
entries_of seat history = filter (λ entry. entry.0.seat.0 == seat) history

-- an extended history: calls of other seats, and then the seat's next calls, consecutively, each with its answer
pub record ExtendsHistory (seat : ℕ) (before : List Entry) (answers : List Answer) (after : List Entry) : Type 0 where
  pub between : List Entry
  pub calls : List Call
  pub made : after ≡ (before ++ between) ++ zip calls answers
  pub count : length answers ≡ length calls
  pub others : entries_of seat between ≡ []
  pub own : AllByRecursion (λ call. call.seat.0 ≡ seat) calls
  pub numbers : AreNumbered (length (entries_of seat before)) calls

-- the identity of the queue, as the channel names it
pub record ReplyId : Type 0 where
  pub table : TableId
  pub key : Badge (Key (Option AnswersView))

-- a base that isn't known, or this one
abbrev pub IsBase : Option (State (List ℕ)) → Option (State (List ℕ)) → Type 0
IsBase known base = (known ≡ None) ⊎ (known ≡ base)

-- the model of its sending end
pub record ReplyEndView : Type 0 where
  pub of : Option ReplyId
  pub seat : ℕ
  -- the queue holds this many batches of answers
  pub capacity : ℕ
  pub base : Option (State (List ℕ))
  pub told : List Entry
  pub gone : Bool

-- a history from a base state may be sent with these answers
pub record MayReport (t : ReplyEndView) (start : State (List ℕ)) (answers : List Answer)
    (history : List Entry) : Type 0 where
  pub base : (t.base ≡ None) ⊎ (t.base ≡ Some start)
  pub legal : LegalButForBytes start history
  pub goes_on : ExtendsHistory t.seat t.told answers history

-- the elements of a queue: batches of answers, each with a history that extends the one before, from the known one
-- to the one last sent; and the close, which has none
abbrev pub ReportsInOrder : ℕ → Option (State (List ℕ)) → List Entry → List (Option AnswersView) → List Entry → Type 0
ReportsInOrder seat base known [] told = known ≡ told
ReportsInOrder seat base known (None ∷ more) told = ReportsInOrder seat base known more told
ReportsInOrder seat base known (Some given ∷ more) told =
    (start : State (List ℕ)) × (history : List Entry) × (base ≡ Some start) × LegalButForBytes start history
    × ExtendsHistory seat known given.answers history × ReportsInOrder seat base history more told

-- the invariant of the queue's elements and the tokens' knowledge, given the sender's and the receiver's tokens
pub record IsReplyLine (teller hearer seat : ℕ) (base : Option (State (List ℕ))) (known told : List Entry)
    (items : List (Option AnswersView)) (views : List ReplyView) : Type 0 where
  pub chain : ReportsInOrder seat base known items told
  pub tells : (pass : ℕ) (v : ReplyView) → get_elem? views pass ≡ some v → v.tells ≡ true
      → (pass ≡ teller) × (v.seat ≡ seat) × (v.base ≡ base) × (v.told ≡ told)
  pub hears : (pass : ℕ) (v : ReplyView) → get_elem? views pass ≡ some v → v.hears ≡ true
      → (pass ≡ hearer) × (v.seat ≡ seat) × (v.known ≡ known) × IsBase v.base base × IsBase v.base_before base

-- the rule
abbrev pub AreReplied : List (Option AnswersView) → List ReplyView → Type 0
AreReplied items views =
    (teller : ℕ) × (hearer : ℕ) × (seat : ℕ) × (base : Option (State (List ℕ)))
    × (known : List Entry) × (told : List Entry) × IsReplyLine teller hearer seat base known told items views

-- the models of one queue at one moment: that of the sender's token, and that of the seat's
pub record AreBesideReplies (views : List ReplyView) (teller hearer : ReplyView) : Type 0 where
  pub tells_at : ℕ
  pub hears_at : ℕ
  pub teller_is : get_elem? views tells_at ≡ some teller
  pub hearer_is : get_elem? views hears_at ≡ some hearer
  pub tells : teller.tells ≡ true
  pub hears : hearer.hears ≡ true

-- the history that a seat knows is a prefix of a history, from the same base, if it knows one
pub record IsPrefixOf (known_base base : Option (State (List ℕ))) (known history : List Entry) : Type 0 where
  pub same_base : IsBase known_base base
  pub rest : List Entry
  pub whole : history ≡ known ++ rest
