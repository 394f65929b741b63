use Rattle.rly_journal.proofs.Common.{IsReading, ◌-◌, ◌^◌}
use Rattle.rly_journal.proofs.recovery.recover.Given as goal

abbrev pub invariant-groups : goal.invariant-groups
invariant-groups g l = IsReading g.D.Disk.state l.found.tail l.found.index l.fn.disk l.disk

abbrev pub decreases-groups : goal.decreases-groups
decreases-groups g l = 2 ^ 64 - l.found.tail.gate
