use Rattle.rly_journal.proofs.UntouchedBytes.{frame_law}
use Rattle.rly_journal.proofs.recovery_laws.law_frame.Goals as goal

pub returns : goal.returns
returns c = frame_law
