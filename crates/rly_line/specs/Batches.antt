-- A batch: asks of one seat that are submitted together, and whose answers return together.
use Rattle.std.specs.Prelude.{ℕ, ◌+◌, ◌≤◌, List, [], ◌∷◌, length, Option, None, Some}
use Rattle.std.specs.List.{flat_map}
use Rattle.rly_machine.specs.declared.call.Answer.{Answer}
use Rattle.rly_machine.specs.declared.call.Call.{Call}
use Rattle.rly_machine.specs.declared.call.SeatId.{SeatId}
use Rattle.rly_machine.specs.declared.command.Ask.{Ask}

-- the calls of a seat after its call of this number: one for each ask, in order
abbrev pub calls_after : SeatId → ℕ → List Ask → List Call
calls_after seat last [] = []
calls_after seat last (ask ∷ asks) =
    record { seat = seat; number = last + 1; ask = ask } ∷ calls_after seat (last + 1) asks

-- the model of a batch: its seat, the number of calls that the seat submitted before it, and its asks, in order
pub record BatchView : Type 0 where
  pub seat : SeatId
  pub before : ℕ
  pub asks : List Ask

-- it has at least one ask
abbrev pub HasAsks : BatchView → Type 0
HasAsks batch = 1 ≤ length batch.asks

-- its calls
abbrev pub calls_in_batch : BatchView → List Call
calls_in_batch batch = calls_after batch.seat batch.before batch.asks

-- the calls of a queue element: of a batch, or none if its seat leaves; and those of all elements of a queue, in
-- order
abbrev pub calls_put : Option BatchView → List Call
calls_put None = []
calls_put (Some batch) = calls_in_batch batch

abbrev pub calls_in_line : List (Option BatchView) → List Call
calls_in_line puts = flat_map calls_put puts

-- the model of the answers to a batch: the seat, the number of answers expected, and those that are present
pub record AnswersView : Type 0 where
  pub seat : SeatId
  pub wanted : ℕ
  pub answers : List Answer

-- none of them is present yet
abbrev pub no_answers : BatchView → AnswersView
no_answers batch = record { seat = batch.seat; wanted = length batch.asks; answers = [] }
