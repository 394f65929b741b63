use Rattle.std.proofs.Common.{◌≡◌, ◌+◌, drop}
use Rattle.toml.specs.View.{items_view}
use Rattle.rly_plan_syntax.specs.DocumentPaths.{first_no_contact}
use Rattle.rly_plan_syntax.proofs.document_paths.first_no_contact.Given as goal

abbrev pub invariant-loop-index : goal.invariant-loop-index
invariant-loop-index l = first_no_contact (l.index + 1) (items_view (drop l.index l.items.items)) ≡ first_no_contact 1 (items_view l.items.items)
