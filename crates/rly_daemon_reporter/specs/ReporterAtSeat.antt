-- A reporter at a seat of its own, in parallel with a relay (docs/reference/DEFINITIONS.md, "Reports").
use Rattle.std.specs.Prelude.{◌≡◌, ℕ, List, [], ◌∷◌, ◌++◌, Option, Some}
use Rattle.rly_line.specs.Replies.{ReplyId}
use Rattle.rly_line.specs.Seats.{Caller, new_callers}
use Rattle.rly_line.specs.Submission.{LineId}
use Rattle.rly_plan.specs.ContactPlan.{ContactPlan}
use Rattle.rly_daemon_report.specs.declared.counted_report.Counted.{Counted}
use Rattle.rly_daemon_reporter.specs.declared.reporter_at_seat.FinishedReporter.{FinishedReporter}
use Rattle.rly_daemon_reporter.specs.ReporterRun.{HasReported, ReporterView}
use Rattle.rly_threads_workers.specs.DeskExchanges.{Asked, HasPut}

-- the ghost histories of the schedule, the counters and a seat's asks
abbrev pub watch_view : {P C : Type 0} → (P → Option (List (Option ℕ))) → (C → Option (List Counted)) → P → C
    → List Asked → ReporterView
watch_view told seen pace counters asked = record { asked = Some asked; paced = told pace; seen = seen counters }

-- A reporter at its end: its effects are those of its answers, and its seat submitted exactly its asks.
pub record HasWatched {P C : Type 0} (told : P → Option (List (Option ℕ))) (seen : C → Option (List Counted))
    (plan : ContactPlan) (pace : P) (counters : C) (seat : Caller) (before after : Option (List ℕ))
    (left : FinishedReporter P C) : Type 0 where
  pub asked : List Asked
  pub put : HasPut seat asked left.seat.value
  pub reported : HasReported plan (watch_view told seen pace counters [])
      (watch_view told seen left.pace left.counters asked) before after left.end

-- the last seat of a new queue
abbrev pub IsLastSeat : LineId → List (Option ReplyId) → Caller → Type 0
IsLastSeat line names seat = (others : List Caller) × (new_callers line 0 names ≡ others ++ seat ∷ [])

-- the same, at the last seat of a queue
abbrev pub HasWatchedAt : {P C : Type 0} → (P → Option (List (Option ℕ))) → (C → Option (List Counted)) → ContactPlan
    → P → C → LineId → List (Option ReplyId) → Option (List ℕ) → Option (List ℕ) → FinishedReporter P C → Type 0
HasWatchedAt told seen plan pace counters line names before after left =
    (seat : Caller) × IsLastSeat line names seat × HasWatched told seen plan pace counters seat before after left
