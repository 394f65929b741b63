use Rattle.std.proofs.Common.{refl}
use Rattle.rly_plan_syntax.proofs.DraftLemmas.{behind_none, read_all, read_none, read_one}
use Rattle.rly_plan_changes.specs.PlanIds.{station_in}
use Rattle.rly_plan_changes.proofs.kept_ids.each_station.Goals as goal

pub loop-value-init : goal.loop-value-init
loop-value-init c = behind_none c.new-stations.result.items _ _ c.new-stations.ensures.items refl

pub loop-value-preserved : goal.loop-value-preserved
loop-value-preserved c =
    read_one station_in c.deref-value-items.result.now c.loop-value.value-index c.value-item.result c.station_in.result c.in-Some.station c.loop-value.stations.items c.push.new.self.items _
    c.loop-value-test.true c.value-item.is c.station_in.ensures c.in-Some.is c.in_ok-push.ensures.items c.loop-value.invariant

pub returns-in_default : goal.returns-in_default
returns-in_default c =
    read_none station_in c.deref-value-items.result.now c.args.values.now.items c.loop-value.value-index c.value-item.result c.station_in.result c.loop-value.stations.items
    c.loop-value-test.true c.value-item.is c.station_in.ensures c.in_default.is c.deref-value-items.ensures.value c.loop-value.invariant

pub returns : goal.returns
returns c =
    read_all station_in c.deref-value-items.result.now c.args.values.now.items c.loop-value.value-index c.loop-value.stations.items
    c.loop-value-test.false c.deref-value-items.ensures.value c.loop-value.invariant
