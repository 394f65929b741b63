use Rattle.std.proofs.lemmas.List.{map-append}
use Rattle.rly_network_command.proofs.LookLemmas.{looked_plans}
use Rattle.rly_network_folder.proofs.Puts.{calls_then, looked_none, looked_once, looked_then, one_taken}
use Rattle.rly_network_command.proofs.network_write.has_plan.Goals as goal

pub loop-station-preserved : goal.loop-station-preserved
loop-station-preserved g c =
    rw (one_taken c.args.stations.now c.loop-station.station-index c.station-item.result c.loop-station-test.true c.station-item.is, map-append)
    (calls_then _ _ _ _ _ c.loop-station.invariant
    (rw (c.in_default.is, c.as_str.ensures.value, c.in_ok-path.ensures) at c.in_ok-found.ensures.called))

pub returns-in_err-path-clause-looked : goal.returns-in_err-path-clause-looked
returns-in_err-path-clause-looked g c = looked_plans _ _ _ _ c.loop-station.invariant

pub returns-in_err-found-clause-looked : goal.returns-in_err-found-clause-looked
returns-in_err-found-clause-looked g c = looked_then _ _ _ (looked_plans _ _ _ _ c.loop-station.invariant) (looked_none _ _ c.in_err-found.ensures.failed)

pub returns-in-Some-clause-looked : goal.returns-in-Some-clause-looked
returns-in-Some-clause-looked g c = looked_then _ _ _ (looked_plans _ _ _ _ c.loop-station.invariant) (looked_once _ _ _ _ c.in_ok-found.ensures.called)

pub returns-clause-looked : goal.returns-clause-looked
returns-clause-looked g c = looked_plans _ _ _ _ c.loop-station.invariant
