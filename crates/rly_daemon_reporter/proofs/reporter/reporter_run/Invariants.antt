use Rattle.rly_daemon_reporter.proofs.Dues.{Ongoing}
use Rattle.rly_daemon_reporter.proofs.reporter.reporter_run.Given as goal

abbrev pub invariant-loop-report : goal.invariant-loop-report
invariant-loop-report g l = Ongoing l.fn.plan l.fn.reporter l.reporter (g.W.Write.contents l.fn.writer) (g.W.Write.contents l.writer)
