use Rattle.std.proofs.Common.{refl}
use Rattle.rly_codel.specs.Cases.{dequeue_of}
use Rattle.rly_world.proofs.pair_law.law_exchange.Goals as goal

pub returns-clause-taken : goal.returns-clause-taken
unfolding dequeue_of
returns-clause-taken c = (refl, refl)

pub returns-clause-released : goal.returns-clause-released
unfolding dequeue_of
returns-clause-released c = (refl, refl)

pub returns-clause-packets : goal.returns-clause-packets
unfolding dequeue_of
returns-clause-packets c = (refl, refl)
