use Rattle.rly_disk.proofs.Common.{[], arith, Err, mem_consistent, mem_state, Ok, rules, Write}
use Rattle.std.proofs.lemmas.Grind.{common_steps}
use Rattle.rly_disk.proofs.Traces.{not_counted, write_makes}
use Rattle.rly_disk.proofs.RecordLemmas.{write_within, write_synced, write_leaves, write_exact, write_as_synced}
use Rattle.rly_disk.proofs.mem.MemDiskDisk.write_at.Goals as goal

pub invariant_of-self : goal.invariant_of-self
invariant_of-self c =
    let synced = write_synced _ _ _ _ _ _ c.requires c.in-Ok.ensures.ok c.in-Ok.ensures.written in
    search (arith, write_within _ _ _ _ _ _ c.requires c.in-Ok.ensures.ok c.in-Ok.ensures.written c.args.self.now.within, synced)

pub returns-then-is_spent-clause-trace : goal.returns-then-is_spent-clause-trace
returns-then-is_spent-clause-trace c = not_counted mem_state (Write _ _) [] (c.is_spent.ensures.0 c.if-is_spent.true)

pub returns-in-Ok-clause-trace : goal.returns-in-Ok-clause-trace
returns-in-Ok-clause-trace c = write_makes mem_state {E = Unit {0}} c.args.place c.args.bytes.now (Ok tt) c.requires (search rules) (search rules)
    (grind (arith, common_steps)) (λ honest. mem_consistent c.args.self.now)
    (λ honest. write_leaves _ _ _ _ _ _ c.requires c.in-Ok.ensures.ok c.in-Ok.ensures.written c.args.self.now.counts c.count_write.new.self) (search rules)

pub returns-in-Err-clause-trace : goal.returns-in-Err-clause-trace
returns-in-Err-clause-trace c = write_makes mem_state {E = Unit {0}} _ _ (Err tt) c.requires (search rules) (search rules) (search rules)
    (λ honest. mem_consistent c.args.self.now) (search rules) (search rules)

pub returns-in-Ok-clause-exact : goal.returns-in-Ok-clause-exact
returns-in-Ok-clause-exact c = write_exact _ _ _ _ _ _ c.requires c.in-Ok.ensures.ok c.in-Ok.ensures.written

pub returns-in-Ok-clause-as_synced : goal.returns-in-Ok-clause-as_synced
returns-in-Ok-clause-as_synced c = write_as_synced _ _ _ _ _ _ c.requires c.in-Ok.ensures.ok c.in-Ok.ensures.written
