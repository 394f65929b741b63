use Rattle.rly_disk.proofs.TriedRows.{row_made, row_tried}
use Rattle.rly_disk.proofs.trials.law_row.Goals as goal

pub returns : goal.returns
returns g c calls whole = (row_tried g.D.Disk.state calls whole, row_made g.D.Disk.state calls whole)
