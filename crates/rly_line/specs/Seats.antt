-- A seat (client handle): the calls that it submitted, and the history that it knows.
use Rattle.std.specs.Prelude.{ℕ, ◌≡◌, ◌+◌, ◌<◌, ◌^◌, ◌⊎◌, List, [], ◌∷◌, ◌++◌, length}
use Rattle.std.specs.Prelude.{Bool, true, false, Option, Some, None, Result, Ok, Err}
use Rattle.std.specs.List.{AllByRecursion, zip}
use Rattle.rly_machine.specs.declared.call.Answer.{Answer}
use Rattle.rly_machine.specs.declared.call.Call.{Call}
use Rattle.rly_machine.specs.declared.call.SeatId.{SeatId}
use Rattle.rly_machine.specs.declared.command.Ask.{Ask}
use Rattle.rly_machine.specs.History.{Entry, LegalButForBytes}
use Rattle.rly_machine.specs.State.{State}
use Rattle.rly_line.specs.declared.call_error.CallError.{CallError}
use Rattle.rly_line.specs.declared.call_error.CallError.TheVariants.{Closed, Lost}
use Rattle.rly_line.specs.declared.call_error.BatchError.{BatchError}
use Rattle.rly_line.specs.declared.call_error.BatchError.TheVariants as batch
use Rattle.rly_line.specs.Batches.{calls_after}
use Rattle.rly_line.specs.Replies.{ReplyId, entries_of}
use Rattle.rly_line.specs.Submission.{AreNumbered, LineId}

-- the model of a seat: its submission queue, its answer queue, the calls that it submitted, the base state and the
-- history that it knows, whether it is shut, and whether the queue refused a batch, since the other end was closed
pub record Caller : Type 0 where
  pub of : LineId
  pub replies : Option ReplyId
  pub seat : SeatId
  pub put : List Call
  pub base : Option (State (List ℕ))
  pub known : List Entry
  pub shut : Bool
  pub refused : Bool

-- a seat without calls
abbrev pub new_caller : LineId → Option ReplyId → ℕ → Caller
new_caller of replies number = record {
  of = of;
  replies = replies;
  seat = record { 0 = number };
  put = [];
  base = None;
  known = [];
  shut = false;
  refused = false;
}

-- such seats of one queue, numbered consecutively, from a number on
abbrev pub new_callers : LineId → ℕ → List (Option ReplyId) → List Caller
new_callers of number [] = []
new_callers of number (replies ∷ more) = new_caller of replies number ∷ new_callers of (number + 1) more

-- the call that submits an ask under the seat's next number
abbrev pub next_call : Caller → Ask → Call
next_call c ask = record { seat = c.seat; number = length c.put + 1; ask = ask }

-- a seat after its ask was answered, given the seat before
pub record IsAnsweredWith (before : Caller) (ask : Ask) (answer : Answer) (after : Caller) : Type 0 where
  pub of : after.of ≡ before.of
  pub replies : after.replies ≡ before.replies
  pub seat : after.seat ≡ before.seat
  pub open_still : after.shut ≡ false
  pub refused : after.refused ≡ before.refused
  -- its submitted calls grew by this ask, under the next number
  pub put : after.put ≡ before.put ++ next_call before ask ∷ []
  -- the history that it knows extends the one before, and ends with its call of that number and this answer;
  -- between them are calls of others
  pub between : List Entry
  pub call : Call
  pub known : after.known ≡ (before.known ++ between) ++ (call, answer) ∷ []
  pub others : entries_of before.seat.0 between ≡ []
  pub own : call.seat ≡ before.seat
  pub number : call.number ≡ length before.put + 1
  -- so it contains exactly those calls of this seat that were answered, each once, in order
  pub calls : entries_of before.seat.0 after.known ≡ entries_of before.seat.0 before.known ++ (call, answer) ∷ []
  -- it is legal except for bytes, from a base that is the same in all answers
  pub start : State (List ℕ)
  pub base : after.base ≡ Some start
  pub same_base : (before.base ≡ None) ⊎ (before.base ≡ Some start)
  pub legal : LegalButForBytes start after.known

-- the calls that submit these asks together, under the seat's next numbers
abbrev pub next_calls : Caller → List Ask → List Call
next_calls c asks = calls_after c.seat (length c.put) asks

-- a seat after it submitted these asks, whose answers it does not know
abbrev pub after_put : Caller → List Ask → Caller
after_put c asks = record c { put = c.put ++ next_calls c asks }

-- the model of a seat that waits: the seat before it submitted asks, and these asks
pub record WaitingCaller : Type 0 where
  pub before : Caller
  pub asks : List Ask

-- a seat after asks submitted together were answered, given the seat before
pub record AreAnsweredWith (before : Caller) (asks : List Ask) (answers : List Answer) (after : Caller) : Type 0 where
  pub of : after.of ≡ before.of
  pub replies : after.replies ≡ before.replies
  pub seat : after.seat ≡ before.seat
  pub open_still : after.shut ≡ false
  pub refused : after.refused ≡ before.refused
  -- its submitted calls grew by these asks, in order, under the next numbers
  pub put : after.put ≡ before.put ++ next_calls before asks
  -- there are as many answers
  pub count : length answers ≡ length asks
  -- the history that it knows extends the one before, and ends with its calls of those numbers, consecutively, each
  -- with its answer, in order; before them are calls of others
  pub between : List Entry
  pub calls : List Call
  pub each : length calls ≡ length asks
  pub known : after.known ≡ (before.known ++ between) ++ zip calls answers
  pub others : entries_of before.seat.0 between ≡ []
  pub own : AllByRecursion (λ call. call.seat ≡ before.seat) calls
  pub numbers : AreNumbered (length before.put) calls
  -- so it contains exactly those calls of this seat that were answered, each once, in order
  pub all : entries_of before.seat.0 after.known ≡ entries_of before.seat.0 before.known ++ zip calls answers
  -- it is legal except for bytes, from a base that is the same in all answers
  pub start : State (List ℕ)
  pub base : after.base ≡ Some start
  pub same_base : (before.base ≡ None) ⊎ (before.base ≡ Some start)
  pub legal : LegalButForBytes start after.known

-- a seat that may not submit this many calls: it is shut, or would make more than 2^52 calls in its lifetime
abbrev pub MayPutNoMore : Caller → ℕ → Type 0
MayPutNoMore c count = (c.shut ≡ true) ⊎ (2 ^ 52 < length c.put + count)

-- a seat after asks were not submitted: it may not submit that many and is unchanged, or the queue refused them
abbrev pub IsClosed : Caller → ℕ → Caller → Type 0
IsClosed before count after =
    (MayPutNoMore before count × (after ≡ before)) ⊎ (after ≡ record before { refused = true })

-- a seat after its ask was not answered: it was handed back and not submitted, or submitted and no answer came
abbrev pub IsUnanswered : Caller → Ask → CallError → Caller → Type 0
IsUnanswered before ask (Closed back) after = (back ≡ ask) × IsClosed before 1 after
IsUnanswered before ask Lost after =
    after ≡ record before { put = before.put ++ next_call before ask ∷ []; shut = true }

-- a seat after none of these asks was answered, with the remaining asks: they were not submitted and all remain, or
-- they were submitted, none remains, and no answers came
abbrev pub AreUnanswered : Caller → List Ask → BatchError → List Ask → Caller → Type 0
AreUnanswered before asks batch.Closed left after = (left ≡ asks) × IsClosed before (length asks) after
AreUnanswered before asks batch.Lost left after =
    (left ≡ []) × (after ≡ record before { put = before.put ++ next_calls before asks; shut = true })

-- a call was not submitted
abbrev pub IsNotPut : Result Answer CallError → Type 0
IsNotPut (Ok _) = ⊥
IsNotPut (Err (Closed _)) = Unit {0}
IsNotPut (Err Lost) = ⊥
