use Rattle.rly_disk.proofs.Common.{rules}
use Rattle.rly_disk.proofs.TracedCalls.{watched_tells}
use Rattle.rly_disk.proofs.traced_disk.TracedDiskDisk.read_at.Goals as goal

pub returns-clause-tells : goal.returns-clause-tells
returns-clause-tells g c = search (rules, watched_tells g.D.Disk.state c.args.self.now c.note.new.self c.read_at-outcome.ensures.trace)
