use Rattle.std.proofs.Common.{◌≡◌, ◌++◌}
use Rattle.rly_station.specs.Workers.{senders}
use Rattle.rly_station.proofs.workers.add_senders.Given as goal

-- the senders to the hops so far are after the old workers
abbrev pub invariant-loop-index : goal.invariant-loop-index
invariant-loop-index l = l.workers.items ≡ l.fn.workers.items ++ senders l.index
