use Rattle.rly_disk.proofs.Common.{IsFilled, take}
use Rattle.rly_disk.proofs.record.fill.Given as goal

abbrev pub invariant-loop-event : goal.invariant-loop-event
invariant-loop-event l = IsFilled (take l.event-index l.events) l.byte l.fn.bytes l.bytes
