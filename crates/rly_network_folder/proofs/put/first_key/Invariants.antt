use Rattle.std.proofs.Common.{map, take}
use Rattle.rly_network_folder.specs.ShelfCalls.{AllCalls}
use Rattle.rly_network_folder.specs.Wanted.{missing}
use Rattle.rly_network_folder.proofs.put.first_key.Given as goal

abbrev pub invariant-loop-other : goal.invariant-loop-other
invariant-loop-other g l = AllCalls (g.S.Shelf.calls l.initial.shelf) (g.S.Shelf.calls l.shelf) (map missing (take l.other-index l.others))
