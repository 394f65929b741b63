use Rattle.rly_reclaim.proofs.Scanning.{NoneBefore}
use Rattle.rly_reclaim.proofs.segment_choice.free_segment.Given as goal

abbrev pub invariant-loop-segment : goal.invariant-loop-segment
invariant-loop-segment l = NoneBefore l.live l.current l.segment
