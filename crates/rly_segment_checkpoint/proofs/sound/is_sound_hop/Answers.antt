use Rattle.std.proofs.Common.{arith}
use Rattle.rly_machine.specs.Kept.{hop_state}
use Rattle.rly_segment_checkpoint.proofs.Totals.{hop_is}
use Rattle.rly_segment_checkpoint.proofs.sound.is_sound_hop.Goals as goal

pub returns-then-is_codel : goal.returns-then-is_codel
returns-then-is_codel g c =
    hop_is g.C.Content.length_of c.args.params.now c.args.seq (hop_state c.args.hop.now) c.is_row.result (c.balances.ensures.0 c.if-not-balances.false) c.if-hop-seq.false c.if-hop-ge-MOMENT_LIMIT.false (omega (arith, c.if-len-params.false, c.len.ensures)) (c.is_codel.ensures.0 c.if-is_codel.true) c.is_row.ensures
