use Rattle.std.proofs.Common.{arith, refl}
use Rattle.rly_folder.specs.FolderCalls.{Remove}
use Rattle.rly_folder.specs.declared.record.Event.TheVariants.{Taken}
use Rattle.rly_folder.proofs.MemCalls.{exact, mem_failed, mem_removed, not_there}
use Rattle.rly_folder.proofs.mem.MemFolderFolder.remove.Goals as goal

pub returns-then-not-is_there-clause-trace : goal.returns-then-not-is_there-clause-trace
returns-then-not-is_there-clause-trace c = not_there _ _ (Remove _) c.args.name refl (grind (arith, c.is_there.ensures)) refl refl (assumption c.count.ensures)

pub returns-in-Ok-clause-trace : goal.returns-in-Ok-clause-trace
returns-in-Ok-clause-trace c = mem_removed _ _ _ (grind (arith, c.is_there.ensures)) c.in-Ok.ensures.ok c.in-Ok.ensures.hidden (assumption c.in-Ok.ensures)

pub returns-in-Err-clause-trace : goal.returns-in-Err-clause-trace
returns-in-Err-clause-trace c = mem_failed _ _ (Remove _) c.in-Err.ensures.err (assumption c.in-Err.ensures)

pub returns-in-Ok-clause-exact : goal.returns-in-Ok-clause-exact
returns-in-Ok-clause-exact c is = exact c.args.self.now c.note.new.self (Taken _) c.in-Ok.ensures.ok
