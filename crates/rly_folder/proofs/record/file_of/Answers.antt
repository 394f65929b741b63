use Rattle.std.proofs.Common.{sym, take}
use Rattle.rly_folder.proofs.RecordLemmas.{files_more}
use Rattle.rly_folder.specs.Record.{files_of}
use Rattle.rly_folder.proofs.record.file_of.Goals as goal

pub loop-event-preserved : goal.loop-event-preserved
loop-event-preserved c =
    rw (files_more c.args.events.now c.loop-event.event-index c.event-item.result c.loop-event-test.true, ← c.event-item.is)
    (c.file_after-found.ensures (files_of (take c.loop-event.event-index c.args.events.now)) (sym c.loop-event.invariant))
