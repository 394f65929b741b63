use Rattle.std.proofs.Common.{refl}
use Rattle.rly_folder.specs.FolderCalls.{Rename}
use Rattle.rly_folder.proofs.MemCalls.{mem_failed, mem_renamed, not_there, rename_exact}
use Rattle.rly_folder.proofs.mem.MemFolderFolder.rename.Goals as goal

pub returns-in-Ok-None-clause-trace : goal.returns-in-Ok-None-clause-trace
returns-in-Ok-None-clause-trace c = not_there _ _ (Rename _ _) c.args.from refl (let absent = rw (c.in-Ok-None.field-0-is, c.deref.ensures.value) at c.in-Ok-None.ensures in rw (← absent) refl) refl refl (assumption c.count.ensures)

pub returns-in-Ok-clause-trace : goal.returns-in-Ok-clause-trace
returns-in-Ok-clause-trace c = mem_renamed _ _ _ _ _ (rw (c.in-Ok-Some.field-0-is, c.deref.ensures.value) at c.in-Ok-Some.ensures) c.in-Ok.ensures.ok c.in-Ok.ensures.hidden (assumption c.in-Ok.ensures)

pub returns-in-Err-note-clause-trace : goal.returns-in-Err-note-clause-trace
returns-in-Err-note-clause-trace c = mem_failed _ _ (Rename _ _) c.in-Err-note.ensures.err (assumption c.in-Err-note.ensures)

pub returns-in-Err-clause-trace : goal.returns-in-Err-clause-trace
returns-in-Err-clause-trace c = mem_failed _ _ (Rename _ _) refl (assumption c.count-in-Err.ensures)

pub returns-in-Ok-clause-exact : goal.returns-in-Ok-clause-exact
returns-in-Ok-clause-exact c is =
    rename_exact c.args.self.now c.note.new.self _ _ c.in-Ok-Some.file (rw (c.in-Ok-Some.field-0-is, c.deref.ensures.value) at c.in-Ok-Some.ensures) c.in-Ok.ensures.ok
