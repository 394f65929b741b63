use Rattle.rly_folder.proofs.RecordLemmas.{kept_all}
use Rattle.rly_folder.proofs.record.undo.Goals as goal

pub returns : goal.returns
returns c = kept_all _ _ _ _ c.loop-at-test.false c.loop-at.invariant
