use Rattle.toml.proofs.Views.{view-Table}
use Rattle.rly_plan_syntax.proofs.DraftLemmas.{item_keyed, item_keyless, items_keyless, items_of, no_member}
use Rattle.rly_plan_syntax.proofs.keys.+has_no_key.Goals as goal

pub returns-in-Table : goal.returns-in-Table
returns-in-Table t c = rw (c.in-Table.is, view-Table c.in-Table.table) (no_member c.in-Table.table.entries _ c.is_empty.ensures.0 c.is_empty.ensures.1)

pub loop-item-init : goal.loop-item-init
loop-item-init t c = items_of c.args.value.now c.in-Array.items c.deref-item-items.result.now c.in-Array.is c.deref-item-items.ensures.value

pub loop-item-preserved : goal.loop-item-preserved
loop-item-preserved t c =
    item_keyless c.deref-item-items.result.now c.loop-item.item-index c.item-item.result c.has_no_key.result _ c.loop-item-test.true c.item-item.is c.has_no_key.ensures
    c.if-not-has_no_key.false c.loop-item.invariant

pub returns-then-not-has_no_key : goal.returns-then-not-has_no_key
returns-then-not-has_no_key t c =
    item_keyed c.deref-item-items.result.now c.loop-item.item-index c.item-item.result c.has_no_key.result _ c.loop-item-test.true c.item-item.is c.has_no_key.ensures
    c.if-not-has_no_key.true c.loop-item.invariant

pub returns-after-loop-item : goal.returns-after-loop-item
returns-after-loop-item t c = items_keyless c.deref-item-items.result.now c.loop-item.item-index _ c.loop-item-test.false c.loop-item.invariant
