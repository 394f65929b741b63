use Rattle.rly_network_folder.specs.ShelfCalls.{OnlyLooked}
use Rattle.rly_network_command.proofs.network_file.passes_in.Given as goal

abbrev pub invariant-loop-pass : goal.invariant-loop-pass
invariant-loop-pass g l = OnlyLooked (g.S.Shelf.calls l.initial.shelf) (g.S.Shelf.calls l.shelf)
