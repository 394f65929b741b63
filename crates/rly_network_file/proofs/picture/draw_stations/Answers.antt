use Rattle.std.proofs.Common.{sym, take}
use Rattle.std.proofs.lemmas.List.{take_more}
use Rattle.rly_network_file.proofs.Drawn.{one_more_drawn}
use Rattle.rly_network_file.proofs.picture.draw_stations.Goals as goal

pub loop-number-preserved : goal.loop-number-preserved
loop-number-preserved c =
    rw (take_more c.deref-number-items.result.now c.loop-number.number-index c.number-item.result c.loop-number-test.true, sym c.number-item.is)
    (one_more_drawn (take c.loop-number.number-index c.deref-number-items.result.now) c.number-item.result c.match-find.name.now _ _ _
    c.loop-number.invariant (rw c.number.view_is at c.in_ok-draw_station.ensures))
