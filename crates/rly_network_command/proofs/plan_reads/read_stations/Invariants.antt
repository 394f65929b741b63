use Rattle.std.proofs.Common.{List, map, take}
use Rattle.rly_network_command.specs.NetworkCheck.{AreRead}
use Rattle.rly_network_folder.specs.ShelfCalls.{AllCalls, ShelfCall}
use Rattle.rly_network_command.proofs.plan_reads.read_stations.Given as goal

abbrev pub invariant-loop-index : goal.invariant-loop-index
invariant-loop-index g l = (calls : List ShelfCall) × AreRead (map (λ s. s.now) (take l.index l.names)) (take l.index l.devices) l.stations.items calls
    × AllCalls (g.S.Shelf.calls l.initial.shelf) (g.S.Shelf.calls l.shelf) calls
