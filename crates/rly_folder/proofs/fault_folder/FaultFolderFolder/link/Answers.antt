use Rattle.std.proofs.Common.{refl}
use Rattle.rly_folder.specs.FolderCalls.{Link}
use Rattle.rly_folder.proofs.FaultCalls.{fault_chosen, fault_made, passed_of}
use Rattle.rly_folder.proofs.fault_folder.FaultFolderFolder.link.Goals as goal

pub returns-then-not-self-clause-trace : goal.returns-then-not-self-clause-trace
returns-then-not-self-clause-trace g c = fault_chosen g.F.Folder.state _ _ (Link _) refl (assumption c.count.ensures)

pub returns-then-fails-2-clause-trace : goal.returns-then-fails-2-clause-trace
returns-then-fails-2-clause-trace g c =
    fault_made g.F.Folder.state _ _ (Link _) _ refl c.link-outcome.ensures.trace (assumption c.count-then-fails-2.ensures)

pub returns-clause-trace : goal.returns-clause-trace
returns-clause-trace g c =
    passed_of g.F.Folder.state _ _ (Link _) c.link-outcome.result c.is_err.result c.is_err.ensures.value c.link-outcome.ensures.trace (assumption c.count-2.ensures)
