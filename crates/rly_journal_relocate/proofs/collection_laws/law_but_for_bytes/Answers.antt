use Rattle.rly_journal_relocate.proofs.Blank.{same_inline, same_live, same_moved, same_settled, same_sound, same_spelled}
use Rattle.rly_journal_relocate.proofs.Storable.{same_storable}
use Rattle.rly_journal_relocate.proofs.collection_laws.law_but_for_bytes.Goals as goal

pub returns-clause-sound : goal.returns-clause-sound
returns-clause-sound c = same_sound

pub returns-clause-spelled : goal.returns-clause-spelled
returns-clause-spelled c = same_spelled

pub returns-clause-fits : goal.returns-clause-fits
returns-clause-fits c = same_storable

pub returns-clause-inline : goal.returns-clause-inline
returns-clause-inline c = same_inline

pub returns-clause-live : goal.returns-clause-live
returns-clause-live c = same_live

pub returns-clause-settled : goal.returns-clause-settled
returns-clause-settled c = same_settled

pub returns-clause-moved : goal.returns-clause-moved
returns-clause-moved c = same_moved
