use Rattle.rly_disk.proofs.Common.{[], arith, Err, mem_state, Ok, rules, Sync}
use Rattle.rly_disk.proofs.Traces.{not_counted, sync_makes}
use Rattle.rly_disk.proofs.RecordLemmas.{sync_within, sync_synced, sync_settled, sync_leaves}
use Rattle.rly_disk.proofs.mem.MemDiskDisk.sync.Goals as goal

pub invariant_of-self : goal.invariant_of-self
invariant_of-self c =
    let synced = sync_synced _ _ c.in-Ok.ensures.ok in
    search (arith, sync_within _ _ _ c.in-Ok.ensures.ok c.args.self.now.within, synced, c.record_sync.new.events.ok.0, c.len-self.ensures)

pub returns-then-is_spent-clause-trace : goal.returns-then-is_spent-clause-trace
returns-then-is_spent-clause-trace c = not_counted mem_state Sync [] (c.is_spent.ensures.0 c.if-is_spent.true)

pub returns-in-Ok-clause-trace : goal.returns-in-Ok-clause-trace
returns-in-Ok-clause-trace c = sync_makes mem_state {E = Unit {0}} (Ok tt) (search rules) (search rules) (search rules)
    (λ honest. sync_leaves _ _ _ c.in-Ok.ensures.ok c.args.self.now.counts c.count_sync.new.self)
    (λ honest. sync_settled _ _ _ c.in-Ok.ensures.ok c.count_sync.new.self) (search rules)

pub returns-in-Err-clause-trace : goal.returns-in-Err-clause-trace
returns-in-Err-clause-trace c =
    sync_makes mem_state {E = Unit {0}} (Err tt) (search rules) (search rules) (search rules) (search rules) (search rules) (search rules)
