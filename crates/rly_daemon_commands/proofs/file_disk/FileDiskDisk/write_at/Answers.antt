use Rattle.std.proofs.Common.{[], rules}
use Rattle.rly_daemon_commands.specs.FileDisk.{file_state}
use Rattle.rly_disk.specs.Trace.{Write}
use Rattle.rly_disk.proofs.Traces.{write_makes, not_counted}
use Rattle.rly_daemon_commands.proofs.file_disk.FileDiskDisk.write_at.Goals as goal

pub returns-then-is_spent-clause-trace : goal.returns-then-is_spent-clause-trace
returns-then-is_spent-clause-trace c = not_counted file_state (Write _ _) [] (c.is_spent.ensures.0 c.if-is_spent.true)

pub returns-clause-trace : goal.returns-clause-trace
returns-clause-trace c = write_makes file_state _ _ c.map_err.result c.requires (search rules) (search rules) (search rules) (λ honest. absurd honest) (λ honest. absurd honest) (λ honest. absurd honest)
