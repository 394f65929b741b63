use Rattle.std.proofs.Common.{◌≡◌, drop}
use Rattle.toml.specs.View.{items_view}
use Rattle.rly_plan_syntax.specs.Draft.{each_item}
use Rattle.rly_plan_syntax.proofs.DraftLemmas.{behind}
use Rattle.rly_network_file.proofs.items.read_each.Given as goal

-- the items read from here, after the items so far, are those of the array
abbrev pub invariant-loop-value : goal.invariant-loop-value
invariant-loop-value g l = behind l.items.items (each_item g.I.Item.shape (items_view (drop l.value-index l.value-items))) ≡ each_item g.I.Item.shape (items_view l.value-items)
