use Rattle.std.proofs.Common.{append_assoc, arith}
use Rattle.rly_station.proofs.CountedWorkers.{senders_more}
use Rattle.rly_station.proofs.workers.add_senders.Goals as goal

pub loop-index-preserved : goal.loop-index-preserved
loop-index-preserved c = grind (arith, append_assoc, senders_more, c.in_ok-push.ensures.items, c.loop-index.invariant)
