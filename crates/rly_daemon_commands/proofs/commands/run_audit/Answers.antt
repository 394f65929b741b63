use Rattle.rly_daemon_commands.proofs.Audited.{line_told, report_told}
use Rattle.rly_daemon_commands.proofs.commands.run_audit.Goals as goal

pub returns-then-made-clause-reported : goal.returns-then-made-clause-reported
returns-then-made-clause-reported g c =
    line_told _ _ _ _ c.in_ok-disk.disk _ c.if-made.true c.in_ok-disk.ensures.lock c.tell_made.ensures.told

pub returns-else-made-clause-reported : goal.returns-else-made-clause-reported
returns-else-made-clause-reported g c =
    report_told _ _ _ _ c.in_ok-disk.disk _ c.if-made.false c.in_ok-disk.ensures.lock c.report_disk.ensures.reported
