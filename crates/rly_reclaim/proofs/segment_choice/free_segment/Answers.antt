use Rattle.std.proofs.Common.{arith, rules}
use Rattle.rly_reclaim.proofs.Scanning.{none_further}
use Rattle.rly_reclaim.proofs.segment_choice.free_segment.Goals.{else-segment-current-via-then-segment-current+else-live-segment-eq0, else-segment-current-via-else-segment-current}
use Rattle.rly_reclaim.proofs.segment_choice.free_segment.Goals as goal

pub loop-segment-init : goal.loop-segment-init
loop-segment-init c s may = search rules

pub returns-then-live-segment-eq0-clause-found : goal.returns-then-live-segment-eq0-clause-found
returns-then-live-segment-eq0-clause-found c = record {
  may_open = record { there = c.loop-segment-test.true; other = c.if-segment-current.true; empty = c.if-live-segment-eq0.true };
  first = c.loop-segment.invariant;
}

pub loop-segment-preserved : goal.loop-segment-preserved
loop-segment-preserved c = none_further c.args.live.now c.args.current c.loop-segment.segment c.loop-segment.invariant
    (λ may. elim c.else-segment-current.branch [
      | else-segment-current-via-then-segment-current+else-live-segment-eq0 w ↦ w.if-live-segment-eq0.false may.empty
      | else-segment-current-via-else-segment-current w ↦ may.other w.if-segment-current.false
    ])

pub returns-clause-none : goal.returns-clause-none
returns-clause-none c none s may = omega (arith, c.loop-segment.invariant s may, may.there, c.loop-segment-test.false)
