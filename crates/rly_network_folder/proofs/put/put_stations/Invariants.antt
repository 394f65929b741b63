use Rattle.std.proofs.Common.{List, take}
use Rattle.rly_network_folder.specs.ShelfCalls.{AllCalls, ShelfCall}
use Rattle.rly_network_folder.specs.Wanted.{AreStationsPut}
use Rattle.rly_network_folder.proofs.put.put_stations.Given as goal

abbrev pub invariant-loop-wanted : goal.invariant-loop-wanted
invariant-loop-wanted g l = (calls : List ShelfCall) × AreStationsPut (take l.wanted-index l.stations) l.new.items calls
    × AllCalls (g.S.Shelf.calls l.initial.shelf) (g.S.Shelf.calls l.shelf) calls
