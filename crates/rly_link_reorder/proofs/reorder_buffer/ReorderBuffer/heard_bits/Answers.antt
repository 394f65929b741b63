use Rattle.std.proofs.Common.{sym}
use Rattle.rly_link_reorder.proofs.Marked.{heard-none, heard-step}
use Rattle.rly_link_reorder.proofs.reorder_buffer.ReorderBuffer.heard_bits.Goals as goal

pub loop-place-init : goal.loop-place-init
loop-place-init c = sym (heard-none c.args.self.now)

pub loop-place-preserved : goal.loop-place-preserved
loop-place-preserved c =
    heard-step c.args.self.now c.loop-place.place c.loop-place.bits c.with_place-bits.result c.loop-place.invariant c.with_place-bits.ensures
