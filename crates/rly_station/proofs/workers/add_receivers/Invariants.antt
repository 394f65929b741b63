use Rattle.std.proofs.Common.{◌≡◌, ◌++◌}
use Rattle.rly_station.specs.Workers.{receivers}
use Rattle.rly_station.proofs.workers.add_receivers.Given as goal

-- the receivers of the peers so far are after the old workers
abbrev pub invariant-loop-index : goal.invariant-loop-index
invariant-loop-index l = l.workers.items ≡ l.fn.workers.items ++ receivers l.index
