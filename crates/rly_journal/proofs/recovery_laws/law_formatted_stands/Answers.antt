use Rattle.rly_journal.proofs.Growing.{formatted_stands}
use Rattle.rly_journal.proofs.recovery_laws.law_formatted_stands.Goals as goal

pub returns : goal.returns
returns c g image is = formatted_stands g image is
