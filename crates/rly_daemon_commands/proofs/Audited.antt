-- A device that was audited, with or without `made`.
use Rattle.std.proofs.Common.{◌≡◌, ℕ, false, true}
use Rattle.std.specs.Prelude.{Bool, Err, List, Ok, OnOk, Option, Result, not}
use Rattle.rly_audit.specs.Audit.{IsReported}
use Rattle.rly_audit.specs.Made.{IsMadeTold}
use Rattle.rly_daemon_commands.specs.Commands.{HasAudited}
use Rattle.rly_daemon_commands.specs.FileDisk.{file_state, is_locked}
use Rattle.rly_daemon_commands.specs.declared.file_disk.FileDisk.{FileDisk}

pub line_told : {X E : Type 0} (made copy : Bool) (old new : Option (List ℕ)) (disk : FileDisk) (r : Result X E) → made ≡ true
    → is_locked disk ≡ not copy → OnOk r (IsMadeTold (file_state disk) old new) → OnOk r (HasAudited made copy old new)
line_told made copy old new disk (Ok x) is_made lock told = record { disk = disk; lock = lock; told = rw is_made told }
line_told made copy old new disk (Err e) is_made lock told = tt

pub report_told : {X E : Type 0} (made copy : Bool) (old new : Option (List ℕ)) (disk : FileDisk) (r : Result X E) → made ≡ false
    → is_locked disk ≡ not copy → OnOk r (IsReported (file_state disk) old new) → OnOk r (HasAudited made copy old new)
report_told made copy old new disk (Ok x) is_made lock told = record { disk = disk; lock = lock; told = rw is_made told }
report_told made copy old new disk (Err e) is_made lock told = tt
