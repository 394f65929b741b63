use Rattle.rly_daemon_reporter.proofs.Dues.{ended, gone_on}
use Rattle.rly_daemon_reporter.proofs.reporter.reporter_run.Goals as goal

pub returns-in-Err : goal.returns-in-Err
returns-in-Err g c =
    let made = c.in-Err.ensures in
    ended c.args.plan.now c.in-Some-due.moment made.0 c.args.reporter.now c.loop-report.reporter c.due.new.self c.report.new.self (g.W.Write.contents c.args.writer.now)
    (g.W.Write.contents c.loop-report.writer) (g.W.Write.contents c.report.new.writer) c.in-Err.end c.loop-report.invariant c.in-Some-due.ensures.told c.due.ensures.same made.1 made.2

pub loop-report-preserved : goal.loop-report-preserved
loop-report-preserved g c =
    let made = c.in_default-report.ensures in
    gone_on c.args.plan.now c.in-Some-due.moment made.0 c.args.reporter.now c.loop-report.reporter c.due.new.self c.report.new.self (g.W.Write.contents c.args.writer.now)
    (g.W.Write.contents c.loop-report.writer) (g.W.Write.contents c.report.new.writer) c.in_default-report.field-0 c.loop-report.invariant c.in-Some-due.ensures.told c.due.ensures.same
    made.1 made.2
