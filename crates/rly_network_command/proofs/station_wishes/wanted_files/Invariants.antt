use Rattle.std.proofs.Common.{◌≡◌, map, take}
use Rattle.std.specs.Global.{Vec}
use Rattle.rly_network_command.specs.NetworkFiles.{wish, wishes}
use Rattle.rly_network_folder.specs.declared.wanted.Wanted.{Wanted}
use Rattle.rly_network_command.proofs.station_wishes.wanted_files.Given as goal

abbrev pub invariant-loop-station : goal.invariant-loop-station
invariant-loop-station l = map (λ (w : Vec Wanted). map wish w.items) l.all.items ≡ map (wishes l.folder l.stations) (take l.station-index l.stations)
