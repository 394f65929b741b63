use Rattle.std.proofs.Common.{◌≡◌, drop}
use Rattle.toml.specs.View.{view, items_view}
use Rattle.rly_plan_syntax.specs.Keys.{has_no_key, items_have_no_key}
use Rattle.rly_plan_syntax.proofs.keys.+has_no_key.Given as goal

-- the value has no key if the items from here on have none
abbrev pub invariant-loop-item : goal.invariant-loop-item
invariant-loop-item l = items_have_no_key (items_view (drop l.item-index l.item-items)) ≡ has_no_key (view l.value)
