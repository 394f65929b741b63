-- The ghost history of a desk: batches of asks and their outcomes; and how it relates to the history of a seat.
use Rattle.std.specs.Prelude.{◌≡◌, List, [], ◌∷◌, ◌++◌, map, Result, Ok, Err}
use Rattle.std.specs.List.{flat_map}
use Rattle.rly_line.specs.declared.call_error.BatchError.{BatchError}
use Rattle.rly_line.specs.declared.call_error.BatchError.TheVariants as batch
use Rattle.rly_line.specs.declared.call_error.CallError.{CallError}
use Rattle.rly_line.specs.declared.call_error.CallError.TheVariants.{Closed, Lost}
use Rattle.rly_line.specs.Replies.{entries_of}
use Rattle.rly_line.specs.Seats.{Caller}
use Rattle.rly_machine.specs.declared.call.Answer.{Answer}
use Rattle.rly_machine.specs.declared.command.Ask.{Ask}

-- the outcome of a call
abbrev pub CallOutcome : Type 0
CallOutcome = Result Answer CallError

-- the outcome of a batch: an answer to each ask, in order, or the error
abbrev pub BatchOutcome : Type 0
BatchOutcome = Result (List Answer) BatchError

-- a batch of asks, in order, and its outcome
abbrev pub Asked : Type 0
Asked = List Ask × BatchOutcome

-- a call is a batch of one
abbrev pub call_asked : Ask → CallOutcome → Asked
call_asked ask (Ok answer) = (ask ∷ [], Ok (answer ∷ []))
call_asked ask (Err (Closed back)) = (ask ∷ [], Err batch.Closed)
call_asked ask (Err Lost) = (ask ∷ [], Err batch.Lost)

-- the outcome of a batch whose answers, if there are any, are in a list
abbrev pub batch_outcome : Result (Unit {0}) BatchError → List Answer → BatchOutcome
batch_outcome (Ok _) answers = Ok answers
batch_outcome (Err error) answers = Err error

-- the submitted asks of a batch: all, unless the batch was handed back
abbrev pub put_of : Asked → List Ask
put_of (asks, Ok answers) = asks
put_of (asks, Err batch.Closed) = []
put_of (asks, Err batch.Lost) = asks

-- and its answers: none if it failed
abbrev pub answers_of : Asked → List Answer
answers_of (asks, Ok answers) = answers
answers_of (asks, Err error) = []

-- A seat submitted exactly its asks, except those handed back, each once, in order. The answers to its own calls in
-- the history that it knows are the answers to these asks.
pub record HasPut (before : Caller) (asked : List Asked) (after : Caller) : Type 0 where
  pub of : after.of ≡ before.of
  pub replies : after.replies ≡ before.replies
  pub seat : after.seat ≡ before.seat
  pub put : map (λ call. call.ask) after.put ≡ map (λ call. call.ask) before.put ++ flat_map put_of asked
  pub told : map (λ entry. entry.1) (entries_of before.seat.0 after.known)
      ≡ map (λ entry. entry.1) (entries_of before.seat.0 before.known) ++ flat_map answers_of asked
