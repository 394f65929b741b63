use Rattle.rly_journal.proofs.Refusing.{refused_stands_for_none}
use Rattle.rly_journal.proofs.fault_laws.law_refused_stands_for_none.Goals as goal

pub returns : goal.returns
returns c = refused_stands_for_none
