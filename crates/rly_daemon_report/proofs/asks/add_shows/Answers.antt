use Rattle.std.proofs.Common.{append_assoc, arith}
use Rattle.rly_daemon_report.proofs.Shows.{shows_more}
use Rattle.rly_daemon_report.proofs.asks.add_shows.Goals as goal

pub loop-index-preserved : goal.loop-index-preserved
loop-index-preserved c = grind (arith, append_assoc, shows_more, c.in_ok-push.ensures.items, c.loop-index.invariant)
