use Rattle.rly_journal.proofs.UntouchedBytes.{opening_law}
use Rattle.rly_journal.proofs.recovery_laws.law_opened.Goals as goal

pub returns : goal.returns
returns c = opening_law
