use Rattle.std.proofs.Common.{◌+◌}
use Rattle.rly_network.proofs.Numbers.{all_after, same_more}
use Rattle.rly_network.proofs.checks.check_numbers.Goals as goal

pub loop-index-preserved : goal.loop-index-preserved
loop-index-preserved c =
    same_more c.loop-index.found.items c.check_number.new.found.items _ c.args.stations.now _ c.loop-index.index c.index-stations-index.result
    c.loop-index-test.true c.index-stations-index.is (all_after c.args.stations.now (c.loop-index.index + 1)) c.in_ok-check_number.ensures c.loop-index.invariant
