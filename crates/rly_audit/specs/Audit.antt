-- The result of an audit.
use Rattle.std.specs.Prelude.{◌≡◌, ℕ, List, Bool, true, false, Option}
use Rattle.std.specs.Io.KnownBytes.{Appends}
use Rattle.rly_core.specs.declared.refusal.Refusal.{Refusal}
use Rattle.rly_core.specs.declared.refusal.Refusal.TheVariants.{Device}
use Rattle.rly_disk.specs.DiskModel.{DiskState}
use Rattle.rly_journal.specs.declared.open_fault.OpenFault.{OpenFault}
use Rattle.rly_journal.specs.Faults.{opening_refusal}
use Rattle.rly_journal.specs.Recovery.{Stands}
use Rattle.rly_machine.specs.State.{State}
use Rattle.rly_journal.specs.OpenFaults.{IsRefused}
use Rattle.rly_daemon_reply.specs.Beginnings.{BreaksOff}
use Rattle.rly_audit.specs.declared.fault.AuditFault.{AuditFault}
use Rattle.rly_audit.specs.declared.fault.AuditFault.TheVariants.{Refused}
use Rattle.rly_audit.specs.Report.{balances, books_of, report_of}

-- a disk was opened in a state: the one that it represents, if it is honest. In every such state the books balance
pub record IsOpened (disk : DiskState) (s : State (List ℕ)) : Type 0 where
  pub stands : disk.honest → Stands disk.seen s
  pub balance : balances (books_of s) ≡ true

-- the report on the state that a disk was opened in was written
pub record IsReported (disk : DiskState) (old new : Option (List ℕ)) : Type 0 where
  pub state : State (List ℕ)
  pub opened : IsOpened disk state
  pub written : Appends old new (report_of state)

-- a proper prefix of it was written
pub record IsBegun (disk : DiskState) (old new : Option (List ℕ)) : Type 0 where
  pub state : State (List ℕ)
  pub opened : IsOpened disk state
  pub begun : BreaksOff old new (report_of state)

-- the refusal is that of the first check that fails on the bytes, or of memory or of the device
pub record IsRefusal (image : List ℕ) (answered : Refusal) : Type 0 where
  pub fault : OpenFault
  pub first : IsRefused image fault
  pub same : answered ≡ opening_refusal fault

-- no call of the device failed
abbrev pub audit_calls_succeeded : AuditFault → Bool
audit_calls_succeeded (Refused Device) = false
audit_calls_succeeded _ = true
