use Rattle.std.proofs.Common.{refl}
use Rattle.rly_folder.specs.FolderCalls.{Rename}
use Rattle.rly_folder.proofs.Events.{not_counted}
use Rattle.rly_folder.proofs.FaultCalls.{fault_chosen, fault_made, passed_of}
use Rattle.rly_folder.specs.FaultFolder.{fault_state}
use Rattle.rly_folder.proofs.fault_folder.FaultFolderFolder.rename.Goals as goal

pub returns-then-not-self-clause-trace : goal.returns-then-not-self-clause-trace
returns-then-not-self-clause-trace g c = fault_chosen g.F.Folder.state _ _ (Rename _ _) refl (assumption c.count.ensures)

pub returns-then-fails-2-clause-trace : goal.returns-then-fails-2-clause-trace
returns-then-fails-2-clause-trace g c =
    fault_made g.F.Folder.state _ _ (Rename _ _) _ refl c.rename-outcome.ensures.trace (assumption c.count-then-fails-2.ensures)

pub returns-clause-trace : goal.returns-clause-trace
returns-clause-trace g c =
    passed_of g.F.Folder.state _ _ (Rename _ _) c.rename-outcome.result c.is_err.result c.is_err.ensures.value c.rename-outcome.ensures.trace (assumption c.count-2.ensures)

pub returns-then-is_spent-clause-trace : goal.returns-then-is_spent-clause-trace
returns-then-is_spent-clause-trace g c = not_counted (fault_state g.F.Folder.state) (Rename _ _) (c.is_spent.ensures.0 c.if-is_spent.true)
