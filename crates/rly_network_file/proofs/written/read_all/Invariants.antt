use Rattle.std.proofs.Common.{◌≡◌, ◌++◌, drop, map, Some, true}
use Rattle.std.specs.List.{list_all}
use Rattle.rly_network.specs.declared.station_plan.StationPlan.{StationPlan}
use Rattle.rly_network_file.specs.Written.{is_by, station_plan}
use Rattle.rly_network_file.specs.declared.station_files.StationFiles.{StationFiles}
use Rattle.rly_network_file.proofs.written.read_all.Given as goal

-- the plans so far, before those of the remaining texts; each is of its own station, by the ids
abbrev pub invariant-loop-file : goal.invariant-loop-file
invariant-loop-file l = record {
  read : map Some l.stations.items ++ map station_plan (drop l.file-index l.files) ≡ map station_plan l.files;
  own : map (λ (s : StationPlan). s.plan.station) l.stations.items ++ map (λ (f : StationFiles). f.number) (drop l.file-index l.files)
      ≡ map (λ (f : StationFiles). f.number) l.files;
  by_ids : list_all (is_by l.ids) l.stations.items ≡ true;
}
