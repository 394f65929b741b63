use Rattle.std.proofs.Common.{◌≡◌, ◌++◌, drop, map}
use Rattle.rly_network_file.specs.declared.station_files.StationFiles.{StationFiles}
use Rattle.rly_network_file.proofs.station_files.files_of.Given as goal

-- the numbers of the files so far, before those of the remaining stations
abbrev pub invariant-loop-number : goal.invariant-loop-number
invariant-loop-number l =
    map (λ (f : StationFiles). f.number) l.files.items ++ drop l.number-index l.number-items ≡ l.number-items
