use Rattle.rly_disk.proofs.TriedReads.{tried_new, tried_settled, tried_still, tried_syncs}
use Rattle.rly_disk.proofs.trials.law_tried_reads.Goals as goal

pub returns-clause-new : goal.returns-clause-new
returns-clause-new g c rows tries reads honest =
    (tried_new g.D.Disk.state rows tries reads honest (g.met.D.Disk.consistent c.args.old.now honest), tried_still g.D.Disk.state rows tries reads honest)

pub returns-clause-settled : goal.returns-clause-settled
returns-clause-settled g c rows tries reads settled = tried_settled g.D.Disk.state rows tries reads settled (g.met.D.Disk.consistent c.args.new.now)

pub returns-clause-syncs : goal.returns-clause-syncs
returns-clause-syncs g c rows tries reads = tried_syncs g.D.Disk.state rows tries reads
