use Rattle.std.proofs.Common.{refl}
use Rattle.rly_folder.specs.FolderCalls.{ListNames}
use Rattle.rly_folder.proofs.MemCalls.{mem_done, mem_failed}
use Rattle.rly_folder.proofs.mem.MemFolderFolder.list.Goals as goal

pub returns-in-Ok-clause-trace : goal.returns-in-Ok-clause-trace
returns-in-Ok-clause-trace c = mem_done _ _ (ListNames _) refl refl refl (λ d image. image) (assumption c.count.ensures)

pub returns-in-Err-clause-trace : goal.returns-in-Err-clause-trace
returns-in-Err-clause-trace c = mem_failed _ _ (ListNames _) refl (assumption c.count-in-Err.ensures)
