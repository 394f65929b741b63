use Rattle.std.proofs.Common.{ℕ, List, [], Bor}
use Rattle.std.proofs.lemmas.List.{map-append, take_more}
use Rattle.rly_network_command.proofs.ReadLemmas.{one_more_device}
use Rattle.rly_network_command.proofs.plan_reads.devices_of.Goals as goal

abbrev no_name : Bor (List ℕ)
no_name = record { ref_ptr = (0, 0); now = [] }

pub loop-index-preserved : goal.loop-index-preserved
loop-index-preserved g c =
    rw (take_more c.args.names.now c.loop-index.index no_name c.loop-index-test.true, map-append, c.in_ok-push-in-Ok.ensures)
    (one_more_device _ _ _ _ c.loop-index.invariant c.in-Ok.ensures)
