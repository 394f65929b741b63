use Rattle.std.proofs.Common.{refl, rules}
use Rattle.rly_folder.specs.FolderCalls.{WriteHidden}
use Rattle.rly_folder.proofs.MemCalls.{mem_failed, mem_written}
use Rattle.rly_folder.proofs.mem.MemFolderFolder.write.Goals as goal

pub returns-in-Ok : goal.returns-in-Ok
returns-in-Ok c = record { trace = mem_written _ _ _ (search rules) refl (assumption c.count.ensures) }

pub returns-in-Err : goal.returns-in-Err
returns-in-Err c = record { trace = mem_failed _ _ (WriteHidden _) refl (assumption c.count-in-Err.ensures) }
