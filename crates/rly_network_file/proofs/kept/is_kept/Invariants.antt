use Rattle.std.proofs.Common.{◌≡◌, drop}
use Rattle.rly_network_file.specs.Ids.{is_kept}
use Rattle.rly_network_file.proofs.kept.is_kept.Given as goal

-- whether a station from here on keeps the ids
abbrev pub invariant-loop-ids : goal.invariant-loop-ids
invariant-loop-ids l = is_kept (drop l.ids-index l.after) l.before ≡ is_kept l.after l.before
