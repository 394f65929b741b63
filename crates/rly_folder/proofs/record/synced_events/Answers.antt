use Rattle.std.proofs.Common.{arith, take_all}
use Rattle.rly_folder.proofs.RecordLemmas.{synced_events_le, synced_step}
use Rattle.rly_folder.proofs.record.synced_events.Goals as goal
use Rattle.rly_folder.proofs.record.synced_events.Goals.{else-is_sync, then-is_sync}

pub loop-at-preserved : goal.loop-at-preserved
loop-at-preserved c =
    synced_step c.args.events.now c.loop-at.at c.index-events-at.result c.loop-at.synced c.if-is_sync.synced c.loop-at-test.true c.index-events-at.is
    c.loop-at.invariant (elim c.if-is_sync.branch [
      | then-is_sync w ↦ grind (arith, w.synced-is, w.if-is_sync.ensures)
      | else-is_sync w ↦ grind (arith, w.synced-is, w.if-is_sync.ensures)
    ])

pub returns-clause-bound : goal.returns-clause-bound
returns-clause-bound c = rw c.loop-at.invariant (rw (take_all _ _ c.loop-at-test.false) (synced_events_le c.args.events.now))
