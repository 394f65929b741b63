use Rattle.std.proofs.Common.{[], rules}
use Rattle.rly_daemon_commands.specs.FileDisk.{file_state}
use Rattle.rly_disk.specs.Trace.{Read}
use Rattle.rly_disk.proofs.Traces.{read_makes, not_counted}
use Rattle.rly_daemon_commands.proofs.file_disk.FileDiskDisk.read_at.Goals as goal

pub returns-then-is_spent-clause-trace : goal.returns-then-is_spent-clause-trace
returns-then-is_spent-clause-trace c = not_counted file_state (Read _ _) [] (c.is_spent.ensures.0 c.if-is_spent.true)

pub returns-clause-trace : goal.returns-clause-trace
returns-clause-trace c = read_makes file_state _ _ c.map_err.result (search rules) (search rules) (search rules) (λ honest. absurd honest) (λ honest. absurd honest)
