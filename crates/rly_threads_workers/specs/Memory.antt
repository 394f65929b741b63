-- The ghost history of a desk in memory.
use Rattle.std.specs.Prelude.{List, map, Ok}
use Rattle.http_server.specs.declared.log.Log.{Log}
use Rattle.std.specs.declared.snapshot.Snapshot.{Snapshot}
use Rattle.rly_machine.specs.declared.call.Answer.{Answer}
use Rattle.rly_machine.specs.declared.command.Ask.{Ask}
use Rattle.rly_threads_workers.specs.DeskExchanges.{Asked}

-- the batches of asks, each ask with its answer
abbrev pub asked_of : Log (Log (Snapshot Ask) (Snapshot Answer)) (Unit {0}) → List Asked
asked_of log = map (λ e. (map (λ x. x.0.value) e.0.items, Ok (map (λ x. x.1.value) e.0.items))) log.items
