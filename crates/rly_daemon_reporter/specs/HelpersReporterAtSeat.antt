-- Helpers of private functions: the inputs and the results of a relay with a parallel task.
use Rattle.std.specs.Prelude.{◌≡◌, ℕ, List, [], length, Bool, Option, Result, IfErr, IfOk}
use Rattle.std.specs.List.{AllByRecursion, zip}
use Rattle.rly_core.specs.declared.ids.HopId.{HopId}
use Rattle.rly_disk.specs.DiskModel.{DiskState}
use Rattle.rly_journal.specs.Journal.{JournalState}
use Rattle.rly_line.specs.EndViews.{names_of, new_reply_ends}
use Rattle.rly_line.specs.ResponderView.{IsSeatOf}
use Rattle.rly_plan.specs.ContactPlan.{ContactPlan}
use Rattle.rly_line.specs.Seats.{Caller}
use Rattle.rly_daemon_report.specs.declared.counted_report.Counted.{Counted}
use Rattle.rly_daemon_reporter.specs.declared.beside.Work.{Work}
use Rattle.rly_daemon_reporter.specs.declared.reporter_at_seat.Left.{Left}
use Rattle.rly_daemon_reporter.specs.ReporterRun.{HasReported}
use Rattle.rly_daemon_reporter.specs.ReporterAtSeat.{watch_view}
use Rattle.rly_threads_workers.specs.DeskExchanges.{Asked, HasPut}
use Rattle.rly_threads.specs.declared.relay.Relayed.{Relayed}
use Rattle.rly_link.specs.LinkHistory.{Handed, Hearing}
use Rattle.rly_threads.specs.Relay.{IsRelayEndAt}

-- its queue is new, and each post has a seat of it
pub record CanRelay {D L T W : Type 0} (work : Work D L T W) : Type 0 where
  pub each : length work.seats.items ≡ length work.posts.items
  pub seats : AllByRecursion (IsSeatOf work.line_end.of (names_of work.line_end.lines)) work.seats.items
  pub new : work.line_end ≡ record work.line_end { taken = []; lines = new_reply_ends 0 (names_of work.line_end.lines) }

-- it ran, or handed its journal back
pub record HasRelayed {D L T W : Type 0} (state : D → DiskState) (heard : L → Option (List Hearing))
    (sent : L → Option (List (List ℕ))) (handed : T → Option (List Handed)) (endless : T → Bool)
    (woken : W → Option (List HopId)) (plan : ContactPlan)
    (work : Work D L T W) (outcome : Result (Relayed D L T W) (JournalState D)) : Type 0 where
  pub end : IfOk outcome
      (IsRelayEndAt state heard sent handed endless woken plan work.journal work.line_end
      (zip work.posts.items work.seats.items))
  pub refused : IfErr outcome (λ back. back ≡ work.journal)

-- a reporter at its end, with the remains of its seat
pub record HasLeft {P C : Type 0} (told : P → Option (List (Option ℕ))) (seen : C → Option (List Counted))
    (plan : ContactPlan) (pace : P) (counters : C) (seat : Caller) (before after : Option (List ℕ)) (left : Left P C)
    : Type 0 where
  pub asked : List Asked
  pub put : HasPut seat asked left.seat
  pub reported : HasReported plan (watch_view told seen pace counters [])
      (watch_view told seen left.pace left.counters asked) before after left.end
