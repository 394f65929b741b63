use Rattle.std.proofs.Common.{◌≡◌, drop}
use Rattle.rly_network_file.specs.Ids.{keeps}
use Rattle.rly_network_file.proofs.kept.keeps.Given as goal

-- whether the ids of the stations from here on are kept
abbrev pub invariant-loop-ids : goal.invariant-loop-ids
invariant-loop-ids l = keeps (drop l.ids-index l.before) l.after ≡ keeps l.before l.after
