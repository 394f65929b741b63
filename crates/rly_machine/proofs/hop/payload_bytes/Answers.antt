use Rattle.std.proofs.Common.{◌<◌, arith, ℕ, length}
use Rattle.rly_machine.proofs.Restoring.{weighed_le, weighed_more}
use Rattle.rly_machine.proofs.hop.payload_bytes.Goals as goal

pub overflow_add-bytes : goal.overflow_add-bytes
overflow_add-bytes g c =
    let len : g.row.C.Denot → ℕ = g.C.Content.length_of in
    let below : c.loop-index.index < length c.args.items.now.items = omega arith in
    let all = weighed_le len c.args.items.now.items c.loop-index.index c.index.result.now below c.index.ensures in
    omega (arith, all, c.loop-index.invariant, c.len.ensures)

pub loop-index-preserved : goal.loop-index-preserved
loop-index-preserved g c =
    let len : g.row.C.Denot → ℕ = g.C.Content.length_of in
    let below : c.loop-index.index < length c.args.items.now.items = omega arith in
    let more = weighed_more len c.args.items.now.items c.loop-index.index c.index.result.now below c.index.ensures in
    omega (arith, more, c.loop-index.invariant, c.len.ensures)
