use Rattle.rly_line.proofs.Replying.{reply_law}
use Rattle.rly_line.proofs.laws.law_reply_line.Goals as goal

pub returns : goal.returns
returns c = reply_law
