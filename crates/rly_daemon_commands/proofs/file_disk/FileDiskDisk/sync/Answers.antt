use Rattle.std.proofs.Common.{[], rules}
use Rattle.rly_daemon_commands.specs.FileDisk.{file_state}
use Rattle.rly_disk.specs.Trace.{Sync}
use Rattle.rly_disk.proofs.Traces.{sync_makes, not_counted}
use Rattle.rly_daemon_commands.proofs.file_disk.FileDiskDisk.sync.Goals as goal

pub returns-then-is_spent-clause-trace : goal.returns-then-is_spent-clause-trace
returns-then-is_spent-clause-trace c = not_counted file_state Sync [] (c.is_spent.ensures.0 c.if-is_spent.true)

pub returns-clause-trace : goal.returns-clause-trace
returns-clause-trace c = sync_makes file_state c.map_err.result (search rules) (search rules) (search rules) (λ honest. absurd honest) (λ honest. absurd honest) (λ honest. absurd honest)
