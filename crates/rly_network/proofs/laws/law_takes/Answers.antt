use Rattle.rly_network.proofs.Taken.{takes_pass}
use Rattle.rly_network.proofs.laws.law_takes.Goals as goal

pub returns : goal.returns
returns c = takes_pass
