use Rattle.rly_folder.proofs.RecordLemmas.{AreKept}
use Rattle.rly_folder.proofs.record.undo.Given as goal

abbrev pub invariant-loop-at : goal.invariant-loop-at
invariant-loop-at l = AreKept l.stands l.at l.initial.events l.events
