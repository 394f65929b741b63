use Rattle.std.proofs.Common.{◌≡◌}
use Rattle.toml.specs.View.{members_view}
use Rattle.rly_plan_syntax.specs.DocumentPaths.{unknown_place}
use Rattle.rly_plan_syntax.proofs.document_paths.unknown_place.Given as goal

abbrev pub invariant-loop-key : goal.invariant-loop-key
invariant-loop-key l = unknown_place (members_view l.key-iterator) ≡ unknown_place (members_view l.document.entries)
