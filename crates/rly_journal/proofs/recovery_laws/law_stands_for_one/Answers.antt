use Rattle.rly_journal.proofs.Once.{stands_for_one}
use Rattle.rly_journal.proofs.recovery_laws.law_stands_for_one.Goals as goal

pub returns : goal.returns
returns c = stands_for_one
