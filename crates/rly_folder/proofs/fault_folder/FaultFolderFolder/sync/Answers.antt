use Rattle.std.proofs.Common.{refl}
use Rattle.rly_folder.specs.FolderCalls.{Sync}
use Rattle.rly_folder.proofs.FaultCalls.{fault_chosen, passed_if}
use Rattle.rly_folder.proofs.fault_folder.FaultFolderFolder.sync.Goals as goal

pub returns-then-fails_next-clause-trace : goal.returns-then-fails_next-clause-trace
returns-then-fails_next-clause-trace g c = fault_chosen g.F.Folder.state _ _ Sync refl (assumption c.count.ensures)

pub returns-clause-trace : goal.returns-clause-trace
returns-clause-trace g c =
    passed_if g.F.Folder.state _ _ Sync c.sync-outcome.result c.is_err.result c.is_err.ensures.value c.sync-outcome.ensures.trace (assumption c.count-2.ensures)
