use Rattle.rly_disk.proofs.Common.{length}
use Rattle.rly_disk.proofs.record.+restore.Given as goal

abbrev pub decreases-restore : goal.decreases-restore
decreases-restore l = length l.events.now
