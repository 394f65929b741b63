use Rattle.rly_journal.proofs.Records.{holds_body, holds_more, holds_none}
use Rattle.rly_journal.proofs.group_laws.law_holds.Goals as goal

pub returns-clause-none : goal.returns-clause-none
returns-clause-none c = holds_none

pub returns-clause-more : goal.returns-clause-more
returns-clause-more c = holds_more

pub returns-clause-body : goal.returns-clause-body
returns-clause-body c = holds_body
