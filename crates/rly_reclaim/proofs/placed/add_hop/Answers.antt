use Rattle.std.proofs.Common.{◌<◌, arith, length, length-append}
use Rattle.rly_machine.specs.Kept.{hop_state}
use Rattle.rly_machine.specs.State.{live_line}
use Rattle.rly_machine.proofs.Restoring.{weighed_le, weighed_more}
use Rattle.rly_reclaim.specs.Places.{bytes_in}
use Rattle.rly_reclaim.proofs.placed.add_hop.Goals as goal

pub add_payload-requires-clause-fits : goal.add_payload-requires-clause-fits
add_payload-requires-clause-fits c t lt =
    let h = hop_state c.args.hop.now in
    let here : t < length c.args.live.now = omega (arith, lt, c.loop-index.auto.live) in
    let below : c.loop-index.index < length (live_line h) = omega (arith, length-append h.flight h.queue, c.loop-index-test.true, c.len.ensures, c.len-2.ensures.count) in
    omega (
      arith,
      c.loop-index.invariant t here,
      weighed_le (bytes_in c.args.geometry.now t) (live_line h) c.loop-index.index c.live_at.result.now below c.live_at.ensures,
      c.requires.fits t here,
    )

pub loop-index-preserved : goal.loop-index-preserved
loop-index-preserved c t lt =
    let h = hop_state c.args.hop.now in
    let below : c.loop-index.index < length (live_line h) = omega (arith, length-append h.flight h.queue, c.loop-index-test.true, c.len.ensures, c.len-2.ensures.count) in
    omega (
      arith,
      c.loop-index.invariant t lt,
      c.add_payload.ensures t (omega (arith, lt, c.loop-index.auto.live)),
      weighed_more (bytes_in c.args.geometry.now t) (live_line h) c.loop-index.index c.live_at.result.now below c.live_at.ensures,
    )
