use Rattle.rly_reclaim.proofs.Scanning.{IsLeastBefore}
use Rattle.rly_reclaim.proofs.segment_choice.victim.Given as goal

abbrev pub invariant-loop-segment : goal.invariant-loop-segment
invariant-loop-segment l = IsLeastBefore l.live l.free l.segment l.fewest
