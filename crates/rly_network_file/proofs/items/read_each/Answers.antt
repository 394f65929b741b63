use Rattle.std.proofs.Common.{refl, sym}
use Rattle.rly_plan_syntax.proofs.DraftLemmas.{behind_none, read_all, read_one}
use Rattle.rly_network_file.proofs.items.read_each.Goals as goal

pub loop-value-init : goal.loop-value-init
loop-value-init g c = behind_none c.new-items.result.items _ _ c.new-items.ensures.items refl

pub loop-value-preserved : goal.loop-value-preserved
loop-value-preserved g c =
    read_one g.I.Item.shape c.deref-value-items.result.now c.loop-value.value-index c.value-item.result _ c.in_ok-item.item c.loop-value.items.items c.push.new.self.items _
    c.loop-value-test.true c.value-item.is (sym c.in_ok-item.ensures) refl c.in_ok-push.ensures.items c.loop-value.invariant

pub returns : goal.returns
returns g c =
    sym (read_all g.I.Item.shape c.deref-value-items.result.now c.args.values.now.items c.loop-value.value-index c.loop-value.items.items
    c.loop-value-test.false c.deref-value-items.ensures.value c.loop-value.invariant)
