use Rattle.rly_segment.proofs.Common.{arith, cut_short, each_failed, each_next}
use Rattle.rly_segment.proofs.formatter.close_gates.Goals as goal

pub loop-segment-preserved : goal.loop-segment-preserved
loop-segment-preserved g c = each_next g.D.Disk.state _ c.loop-segment.segment c.loop-segment.invariant (rw c.segment_place.ensures at c.in_ok-settle.ensures)

pub returns-in_err-settle : goal.returns-in_err-settle
returns-in_err-settle g c = cut_short _ _ c.from_residual.ensures.0 (each_failed _ _ c.loop-segment.segment c.args.geometry.now.segments
    (omega (arith, c.loop-segment-test.true)) c.loop-segment.invariant (rw c.segment_place.ensures at c.in_err-settle.ensures))
