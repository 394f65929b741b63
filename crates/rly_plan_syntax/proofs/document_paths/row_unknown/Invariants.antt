use Rattle.std.proofs.Common.{◌≡◌}
use Rattle.toml.specs.View.{members_view}
use Rattle.rly_plan_syntax.specs.DocumentPaths.{row_unknown}
use Rattle.rly_plan_syntax.proofs.document_paths.row_unknown.Given as goal

abbrev pub invariant-loop-key : goal.invariant-loop-key
invariant-loop-key l = row_unknown l.row l.folder (members_view l.key-iterator) ≡ row_unknown l.row l.folder (members_view l.table.entries)
