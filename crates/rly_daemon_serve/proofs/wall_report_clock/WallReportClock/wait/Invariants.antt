use Rattle.std.proofs.Common.{◌≡◌}
use Rattle.rly_daemon_serve.proofs.wall_report_clock.WallReportClock.wait.Given as goal

-- it is the same except for the time of the next report, and for its sleeps
abbrev pub invariant-loop-nap : goal.invariant-loop-nap
invariant-loop-nap g l = l.self ≡ record l.fn.self { due = l.self.due; naps = l.self.naps }
