use Rattle.std.proofs.Common.{arith, refl}
use Rattle.rly_folder.specs.FolderCalls.{Link}
use Rattle.rly_folder.proofs.MemCalls.{link_none, link_taken, mem_failed, link_exact, mem_linked}
use Rattle.rly_folder.proofs.mem.MemFolderFolder.link.Goals as goal

pub returns-then-is_there-clause-trace : goal.returns-then-is_there-clause-trace
returns-then-is_there-clause-trace c = link_taken _ _ _ (grind (arith, c.is_there.ensures)) refl refl (assumption c.count.ensures)

pub returns-in-None-clause-trace : goal.returns-in-None-clause-trace
returns-in-None-clause-trace c = link_none _ _ _ (cc (c.take.ensures.value, c.in-None.is)) refl c.take.ensures.after (assumption c.count-in-None.ensures)

pub returns-in-Ok-clause-trace : goal.returns-in-Ok-clause-trace
returns-in-Ok-clause-trace c = mem_linked _ _ _ _ (cc (c.take.ensures.value, c.in-Some.is)) (grind (arith, c.is_there.ensures)) c.in-Ok.ensures.ok
    (cc (c.take.ensures.after, c.in-Ok.ensures.hidden)) (assumption c.in-Ok.ensures)

pub returns-in-Err-clause-trace : goal.returns-in-Err-clause-trace
returns-in-Err-clause-trace c = mem_failed _ _ (Link _) c.in-Err.ensures.err (assumption c.in-Err.ensures)

pub returns-in-Ok-clause-exact : goal.returns-in-Ok-clause-exact
returns-in-Ok-clause-exact c is = link_exact c.args.self.now c.note.new.self _ c.in-Some.file (cc (c.take.ensures.value, c.in-Some.is)) c.in-Ok.ensures.ok
