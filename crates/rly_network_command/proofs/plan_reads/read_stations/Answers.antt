use Rattle.std.proofs.Common.{ℕ, List, [], ◌∷◌, ◌++◌, ◌<◌, Bor, length}
use Rattle.std.proofs.lemmas.List.{map-append, take_more}
use Rattle.rly_core.specs.declared.params.Params.{Params}
use Rattle.rly_network_command.specs.NetworkCheck.{look_of}
use Rattle.rly_network_command.proofs.ReadLemmas.{one_more_read, reads_looked}
use Rattle.rly_network_folder.proofs.Puts.{calls_then, looked_then}
use Rattle.rly_network_command.proofs.plan_reads.read_stations.Goals as goal

abbrev no_name : Bor (List ℕ)
no_name = record { ref_ptr = (0, 0); now = [] }

abbrev no_device : Params
no_device = record { hops = 0; peers = 0; window = 0; items = 0; bytes = 0; maxpacket = 0; target = 0; interval = 0; payload = 0 }

pub loop-index-preserved : goal.loop-index-preserved
loop-index-preserved g c =
    let before = c.loop-index.invariant in
    let read = c.in-Ok.ensures.read in
    let at = c.loop-index.index in
    let within : at < length c.args.devices.now = rw c.requires c.loop-index-test.true in
    rw (
      take_more c.args.names.now at no_name c.loop-index-test.true,
      take_more c.args.devices.now at no_device within,
      map-append,
      c.in_ok-push-in-Ok.ensures,
    ) (
      before.0 ++ look_of read.0 ∷ [],
      one_more_read _ _ _ before.0 _ _ _ read.0 before.1 read.1 read.2,
      calls_then _ _ _ before.0 _ before.2 read.3,
    )

pub returns-in_err-push-in-Ok-clause-looked : goal.returns-in_err-push-in-Ok-clause-looked
returns-in_err-push-in-Ok-clause-looked g c =
    let before = c.loop-index.invariant in
    looked_then _ _ _ (reads_looked _ _ _ before.0 _ _ before.1 before.2) c.read_station.ensures.looked

pub returns-in-Err-clause-looked : goal.returns-in-Err-clause-looked
returns-in-Err-clause-looked g c =
    let before = c.loop-index.invariant in
    looked_then _ _ _ (reads_looked _ _ _ before.0 _ _ before.1 before.2) c.read_station.ensures.looked

pub returns-clause-looked : goal.returns-clause-looked
returns-clause-looked g c =
    let before = c.loop-index.invariant in
    reads_looked _ _ _ before.0 _ _ before.1 before.2
