use Rattle.rly_journal_relocate.proofs.Moves.{may_move}
use Rattle.rly_journal_relocate.proofs.relocation_laws.law_may_relocate.Goals as goal

pub returns : goal.returns
returns c = may_move
