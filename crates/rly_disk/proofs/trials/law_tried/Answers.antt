use Rattle.rly_disk.proofs.TriedRows.{tries_later}
use Rattle.rly_disk.proofs.trials.law_tried.Goals as goal

pub returns : goal.returns
returns g c = tries_later g.D.Disk.state
