use Rattle.rly_hop.proofs.Messages.{spelling-once}
use Rattle.rly_hop.proofs.laws.messages.law_one_spelling.Goals as goal

pub returns : goal.returns
returns c a b fits_a fits_b same = spelling-once a b fits_a fits_b same
