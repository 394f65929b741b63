use Rattle.std.proofs.Common.{◌≡◌, map, string_bytes, take}
use Rattle.std.specs.Prelude.{String}
use Rattle.std.specs.Global.{Global}
use Rattle.rly_network_command.specs.NetworkFiles.{key_paths}
use Rattle.rly_network_command.proofs.station_wishes.key_paths.Given as goal

abbrev pub invariant-loop-station : goal.invariant-loop-station
invariant-loop-station l = map (λ (s : String Global). string_bytes s) l.paths.items ≡ key_paths l.folder (take l.station-index l.stations) l.key
