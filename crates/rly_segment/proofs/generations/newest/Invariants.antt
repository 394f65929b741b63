use Rattle.rly_segment.proofs.Common.{◌<◌, ◌≡◌, AreClosed, generation_reads, IfSome, IsFound, length, Makes, true}
use Rattle.rly_segment.proofs.generations.newest.Given as goal

abbrev pub invariant-loop-segment : goal.invariant-loop-segment
invariant-loop-segment g l = record {
  made : Makes g.D.Disk.state (generation_reads l.geometry l.segment) true l.initial.disk l.disk;
  found : (g.D.Disk.state l.initial.disk).honest → IsFound (g.D.Disk.state l.initial.disk).seen l.geometry l.segment l.found;
  flags : length l.closed ≡ 256;
  closed : (g.D.Disk.state l.initial.disk).honest → AreClosed (g.D.Disk.state l.initial.disk).seen l.geometry l.segment l.closed;
  within : IfSome l.found (λ greatest. greatest.segment < l.segment);
}
