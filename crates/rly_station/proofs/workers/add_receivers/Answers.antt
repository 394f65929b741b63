use Rattle.std.proofs.Common.{append_assoc, arith}
use Rattle.rly_station.proofs.CountedWorkers.{receivers_more}
use Rattle.rly_station.proofs.workers.add_receivers.Goals as goal

pub loop-index-preserved : goal.loop-index-preserved
loop-index-preserved c = grind (arith, append_assoc, receivers_more, c.in_ok-push.ensures.items, c.loop-index.invariant)
