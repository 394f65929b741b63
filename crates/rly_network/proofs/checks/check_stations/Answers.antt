use Rattle.rly_network.specs.Check.{station_conflicts}
use Rattle.rly_network.proofs.Rows.{row_found}
use Rattle.rly_network.proofs.checks.check_stations.Goals as goal

pub loop-station-preserved : goal.loop-station-preserved
loop-station-preserved c =
    row_found (station_conflicts c.args.stations.now) c.args.found.now.items c.loop-station.found.items c.check_station.new.found.items c.args.some.now
    c.loop-station.station-index c.station-item.result c.loop-station-test.true c.station-item.is c.loop-station.invariant c.in_ok-check_station.ensures
