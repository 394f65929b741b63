use Rattle.std.proofs.Common.{◌≡◌, ◌+◌, drop}
use Rattle.toml.specs.View.{items_view}
use Rattle.rly_plan_syntax.specs.DocumentPaths.{first_item}
use Rattle.rly_plan_syntax.proofs.document_paths.first_item.Given as goal

abbrev pub invariant-loop-index : goal.invariant-loop-index
invariant-loop-index g l = first_item (g.F.Test.fault l.row) l.row (l.index + 1) (items_view (drop l.index l.items.items)) ≡ first_item (g.F.Test.fault l.row) l.row 1 (items_view l.items.items)
