use Rattle.std.proofs.Common.{length, arith}
use Rattle.std.proofs.lemmas.Bool.{iff_false}
use Rattle.rly_machine.specs.Kept.{hop_state}
use Rattle.rly_machine.specs.Sound.{IsSoundHop}
use Rattle.rly_machine.specs.State.{HopState, bytes_of, live_line}
use Rattle.rly_machine.proofs.Restoring.{counted_more}
use Rattle.rly_segment_checkpoint.proofs.Totals.{hop_among, hop_bytes_below, hop_more, too_many}
use Rattle.rly_segment_checkpoint.proofs.sound.totals_of.Goals as goal

pub returns-then-not-is_sound_hop-clause-none : goal.returns-then-not-is_sound_hop-clause-none
returns-then-not-is_sound_hop-clause-none g c all =
    iff_false c.is_sound_hop.ensures c.if-not-is_sound_hop.true (hop_among (IsSoundHop g.C.Content.length_of c.args.params.now c.args.seq) c.args.hops.now c.loop-hop.hop-index c.hop-item.result c.loop-hop-test.true c.hop-item.is all.0)

pub returns-then-items-params-clause-none : goal.returns-then-items-params-clause-none
returns-then-items-params-clause-none g c all =
    too_many c.args.hops.now c.loop-hop.hop-index c.hop-item.result c.args.params.now.items c.loop-hop-test.true c.hop-item.is (omega (arith, c.if-items-params.true, c.live_items-items.ensures)) all.1

pub live_bytes-requires : goal.live_bytes-requires
live_bytes-requires g c =
    omega (arith, hop_bytes_below g.C.Content.length_of c.args.params.now c.args.seq (hop_state c.hop-item.result) c.requires.params (c.is_sound_hop.ensures.0 c.if-not-is_sound_hop.false) (omega (arith, c.if-items-params.false, c.live_items-items.ensures)))

pub overflow_add-totals-in-loop-hop-2 : goal.overflow_add-totals-in-loop-hop-2
overflow_add-totals-in-loop-hop-2 g c =
    omega (
      arith,
      c.live_bytes.ensures,
      c.loop-hop.invariant.few_bytes,
      c.requires.count,
      c.loop-hop-test.true,
      hop_bytes_below g.C.Content.length_of c.args.params.now c.args.seq (hop_state c.hop-item.result) c.requires.params (c.is_sound_hop.ensures.0 c.if-not-is_sound_hop.false) (omega (arith, c.if-items-params.false, c.live_items-items.ensures)),
    )

pub loop-hop-preserved : goal.loop-hop-preserved
loop-hop-preserved g c =
    let i = c.loop-hop.hop-index in
    let sound = c.is_sound_hop.ensures.0 c.if-not-is_sound_hop.false in
    let bytes = hop_bytes_below g.C.Content.length_of c.args.params.now c.args.seq (hop_state c.hop-item.result) c.requires.params sound (omega (arith, c.if-items-params.false, c.live_items-items.ensures)) in
    record {
      sound = hop_more (IsSoundHop g.C.Content.length_of c.args.params.now c.args.seq) c.args.hops.now i c.hop-item.result c.loop-hop-test.true c.hop-item.is c.loop-hop.invariant.sound sound;
      taken = omega (arith, counted_more (λ (h : HopState g.row.C.Denot). h.taken) c.args.hops.now i c.hop-item.result c.loop-hop-test.true c.hop-item.is, c.loop-hop.invariant.taken);
      items = omega (arith, counted_more (λ (h : HopState g.row.C.Denot). length (live_line h)) c.args.hops.now i c.hop-item.result c.loop-hop-test.true c.hop-item.is, c.loop-hop.invariant.items, c.live_items-items.ensures);
      bytes = omega (arith, counted_more (λ (h : HopState g.row.C.Denot). bytes_of g.C.Content.length_of (live_line h)) c.args.hops.now i c.hop-item.result c.loop-hop-test.true c.hop-item.is, c.loop-hop.invariant.bytes, c.live_bytes.ensures);
      few_taken = omega (arith, sound.taken, c.requires.seq, c.loop-hop.invariant.few_taken);
      few_items = omega (arith, c.if-items-params.false, c.requires.params.items.1, c.loop-hop.invariant.few_items);
      few_bytes = omega (arith, bytes, c.live_bytes.ensures, c.loop-hop.invariant.few_bytes);
    }
