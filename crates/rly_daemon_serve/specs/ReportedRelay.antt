-- A relay that reports (docs/reference/DEFINITIONS.md, "Reports").
use Rattle.std.specs.Prelude.{ℕ, List, [], Option, None, Some}
use Rattle.rly_line.specs.EndViews.{names_of}
use Rattle.rly_line.specs.ResponderView.{IsAnsweredBy, ResponderView}
use Rattle.rly_line.specs.Seats.{Caller}
use Rattle.rly_plan.specs.ContactPlan.{ContactPlan}
use Rattle.rly_daemon_reporter.specs.declared.reporter.ReporterEnd.{ReporterEnd}
use Rattle.rly_daemon_reporter.specs.ReporterRun.{HasReported, ReporterView}
use Rattle.rly_daemon_reporter.specs.ReporterAtSeat.{IsLastSeat}
use Rattle.rly_threads_workers.specs.DeskExchanges.{Asked, HasPut}

-- the recorded history of a reporter: its asks, and the moments of its reports. Its counts aren't recorded, since
-- other threads count
abbrev pub reporter_view : List Asked → List (Option ℕ) → ReporterView
reporter_view asked moments = record { asked = Some asked; paced = Some moments; seen = None }

-- The text written is a report at each due moment, in order, of the answers at the last seat of the queue; and that
-- seat is related to its answering thread.
pub record HasReports (plan : ContactPlan) (r : ResponderView) (old new : Option (List ℕ)) (seat : Caller)
    (end : ReporterEnd) : Type 0 where
  pub first : Caller
  pub last : IsLastSeat r.of (names_of r.lines) first
  pub asked : List Asked
  pub put : HasPut first asked seat
  pub known : IsAnsweredBy r seat
  pub moments : List (Option ℕ)
  pub reported : HasReported plan (reporter_view [] []) (reporter_view asked moments) old new end
