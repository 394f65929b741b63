use Rattle.rly_world.proofs.PairHolds.{pair_holds}
use Rattle.rly_world.proofs.pair_law.law_two.Goals as goal

pub returns-clause-order : goal.returns-clause-order
returns-clause-order c setup events pair = (pair_holds setup events pair).lower.order

pub returns-clause-released : goal.returns-clause-released
returns-clause-released c setup events pair = (pair_holds setup events pair).upper.released
