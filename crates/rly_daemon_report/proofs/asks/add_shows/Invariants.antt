use Rattle.std.proofs.Common.{◌≡◌, ◌++◌}
use Rattle.rly_daemon_report.specs.Hops.{shows_of_hops}
use Rattle.rly_daemon_report.proofs.asks.add_shows.Given as goal

-- the Shows of the hops so far are after the old asks
abbrev pub invariant-loop-index : goal.invariant-loop-index
invariant-loop-index l = l.asks.items ≡ l.fn.asks.items ++ shows_of_hops l.index
