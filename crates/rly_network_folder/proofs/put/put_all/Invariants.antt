use Rattle.std.proofs.Common.{List, take}
use Rattle.rly_network_folder.specs.ShelfCalls.{AllCalls, ShelfCall}
use Rattle.rly_network_folder.specs.Wanted.{AreAllPut}
use Rattle.rly_network_folder.proofs.put.put_all.Given as goal

abbrev pub invariant-loop-one : goal.invariant-loop-one
invariant-loop-one g l = (calls : List ShelfCall) × AreAllPut (take l.one-index l.wanted) l.new calls
    × AllCalls (g.S.Shelf.calls l.initial.shelf) (g.S.Shelf.calls l.shelf) calls
