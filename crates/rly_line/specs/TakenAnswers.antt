-- The outcome of taking the answers that a seat waits for, without waiting.
use Rattle.std.specs.Prelude.{◌≡◌, List, []}
use Rattle.rly_machine.specs.declared.call.Answer.{Answer}
use Rattle.rly_line.specs.declared.call_error.BatchError.TheVariants as batch
use Rattle.rly_line.specs.declared.waiting_seat.Taken.{Taken}
use Rattle.rly_line.specs.declared.waiting_seat.Taken.TheVariants.{Answered, Lost, NotYet}
use Rattle.rly_line.specs.Seats.{AreAnsweredWith, AreUnanswered, WaitingCaller}

-- all answers were taken, and the seat is answered with them; or they were not found, and the seat waits as before;
-- or none come, and the seat is shut
abbrev pub IsTaken : WaitingCaller → Taken → List Answer → Type 0
IsTaken w (Answered after) answers = AreAnsweredWith w.before w.asks answers after
IsTaken w (NotYet same) answers = (same ≡ w) × (answers ≡ [])
IsTaken w (Lost after) answers = AreUnanswered w.before w.asks batch.Lost [] after × (answers ≡ [])
