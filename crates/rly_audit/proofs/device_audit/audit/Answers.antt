use Rattle.std.proofs.Common.{subst, sym}
use Rattle.rly_journal.specs.OpenCalls.{BreaksOpening}
use Rattle.rly_journal.proofs.Following.{opening_broken}
use Rattle.rly_audit.specs.Audit.{audit_calls_succeeded}
use Rattle.rly_audit.proofs.Asking.{told_by_report}
use Rattle.rly_audit.proofs.device_audit.audit.Goals as goal

pub returns-in-Err-outcome-clause-trace : goal.returns-in-Err-outcome-clause-trace
returns-in-Err-outcome-clause-trace g c =
    let opened = c.in-Ok.ensures.trace in
    subst (λ disk. BreaksOpening g.D.Disk.state (audit_calls_succeeded c.in-Err-outcome.fault) c.args.disk disk) (sym c.into_disk-disk.ensures)
    (subst (λ told. BreaksOpening g.D.Disk.state told c.args.disk c.in-Ok.journal.disk) (sym (told_by_report c.in-Err-outcome.fault c.in-Err-outcome.ensures.fault))
    (opening_broken g.D.Disk.state opened.0 opened.2))
