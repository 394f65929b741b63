use Rattle.rly_network.proofs.Arrivals.{declared_arrives}
use Rattle.rly_network.proofs.laws.law_declared_arrives.Goals as goal

pub returns : goal.returns
returns c = declared_arrives
