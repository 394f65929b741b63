use Rattle.std.proofs.Common.{refl}
use Rattle.rly_folder.specs.FolderCalls.{WriteHidden}
use Rattle.rly_folder.proofs.FaultCalls.{fault_chosen, passed_if}
use Rattle.rly_folder.proofs.fault_folder.FaultFolderFolder.write.Goals as goal

pub returns-then-fails_next-clause-trace : goal.returns-then-fails_next-clause-trace
returns-then-fails_next-clause-trace g c = fault_chosen g.F.Folder.state _ _ (WriteHidden _) refl (assumption c.count.ensures)

pub returns-clause-trace : goal.returns-clause-trace
returns-clause-trace g c =
    passed_if g.F.Folder.state _ _ (WriteHidden _) c.write-outcome.result c.is_err.result c.is_err.ensures.value c.write-outcome.ensures.trace (assumption c.count-2.ensures)
