use Rattle.rly_disk.proofs.Making.{makes_settled, synced_behind, synced_sync}
use Rattle.rly_disk.proofs.laws.law_settles.Goals as goal

pub returns : goal.returns
returns g c calls made honest = makes_settled g.D.Disk.state made (synced_behind calls _ synced_sync) honest (g.met.D.Disk.consistent c.args.new.now)
