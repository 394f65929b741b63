-- The device calls of an audit.
use Rattle.std.proofs.Common.{◌≡◌, ◌⊎◌, true, ap, ⊎_elim}
use Rattle.rly_core.specs.declared.refusal.Refusal.TheVariants.{OutOfMemory}
use Rattle.rly_audit.specs.declared.fault.AuditFault.{AuditFault}
use Rattle.rly_audit.specs.declared.fault.AuditFault.TheVariants.{Output, Refused}
use Rattle.rly_audit.specs.Audit.{audit_calls_succeeded}

-- an incomplete report: no call of the device failed
pub told_by_report : {P Q : Type 0} (why : AuditFault) → ((why ≡ Output) × P) ⊎ ((why ≡ Refused OutOfMemory) × Q) → audit_calls_succeeded why ≡ true
told_by_report why because = ⊎_elim (λ output. ap audit_calls_succeeded output.0) (λ memory. ap audit_calls_succeeded memory.0) because
