use Rattle.std.proofs.Common.{map, take}
use Rattle.rly_network_command.specs.NetworkWrite.{plan_look}
use Rattle.rly_network_folder.specs.ShelfCalls.{AllCalls}
use Rattle.rly_network_command.proofs.network_write.has_plan.Given as goal

abbrev pub invariant-loop-station : goal.invariant-loop-station
invariant-loop-station g l = AllCalls (g.S.Shelf.calls l.initial.shelf) (g.S.Shelf.calls l.shelf) (map (plan_look l.folder) (take l.station-index l.stations))
