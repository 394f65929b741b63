use Rattle.rly_plan.proofs.EdgeWaits.{edge_wait-keeps, edge_wait-none}
use Rattle.rly_plan.proofs.laws.law_edge_wait.Goals as goal

pub returns : goal.returns
returns c = record { keeps = edge_wait-keeps; none = edge_wait-none }
