use Rattle.rly_journal.proofs.Brought.{brought, group_fits}
use Rattle.rly_journal.proofs.group_laws.law_brought.Goals as goal

pub returns-clause-brought : goal.returns-clause-brought
returns-clause-brought c = brought

pub returns-clause-room : goal.returns-clause-room
returns-clause-room c = group_fits
