-- A reporter with a new schedule.
use Rattle.std.proofs.Common.{◌≡◌, ℕ, List, [], Option, subst}
use Rattle.rly_daemon_serve.specs.ReportedRelay.{reporter_view}
use Rattle.rly_plan.specs.ContactPlan.{ContactPlan}
use Rattle.rly_daemon_reporter.specs.declared.reporter.ReporterEnd.{ReporterEnd}
use Rattle.rly_daemon_reporter.specs.ReporterRun.{HasReported}
use Rattle.rly_threads_workers.specs.DeskExchanges.{Asked}

pub told_from : (plan : ContactPlan) (asked : List Asked) (before after : List (Option ℕ)) (old new : Option (List ℕ)) (end : ReporterEnd) → before ≡ []
    → HasReported plan (reporter_view [] before) (reporter_view asked after) old new end → HasReported plan (reporter_view [] []) (reporter_view asked after) old new end
told_from plan asked before after old new end none did = subst (λ m. HasReported plan (reporter_view [] m) (reporter_view asked after) old new end) none did
