use Rattle.rly_disk.proofs.Common.{[], mem_state, Read}
use Rattle.rly_disk.proofs.Traces.{not_counted}
use Rattle.rly_disk.proofs.mem.MemDiskDisk.read_at.Goals as goal

pub returns-then-is_spent-clause-trace : goal.returns-then-is_spent-clause-trace
returns-then-is_spent-clause-trace c = not_counted mem_state (Read _ _) [] (c.is_spent.ensures.0 c.if-is_spent.true)
