use Rattle.rly_segment.proofs.Common.{closing_gates, Makes, true}
use Rattle.rly_segment.proofs.formatter.close_gates.Given as goal

abbrev pub invariant-loop-segment : goal.invariant-loop-segment
invariant-loop-segment g l = Makes g.D.Disk.state (closing_gates l.geometry l.segment) true l.fn.disk l.disk
