use Rattle.std.proofs.Common.{refl}
use Rattle.rly_folder.proofs.MemCalls.{mem_other}
use Rattle.rly_folder.specs.declared.record.Event.TheVariants.{Put}
use Rattle.rly_folder.proofs.mem.MemFolder.put.Goals as goal

pub returns-clause-ok : goal.returns-clause-ok
returns-clause-ok c = mem_other c.args.self.now (record c.args.self.now { events = c.push.new.self }) (Put _ _) _ _ c.in_ok-push.ensures.items refl refl (λ files. refl) (λ d image. image)
