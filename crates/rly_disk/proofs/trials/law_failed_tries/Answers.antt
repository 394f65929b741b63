use Rattle.rly_disk.proofs.TriedReads.{tried_failed, tried_failures, tried_most}
use Rattle.rly_disk.proofs.trials.law_failed_tries.Goals as goal

pub returns-clause-most : goal.returns-clause-most
returns-clause-most g c rows tries reads = tried_most g.D.Disk.state rows tries reads

pub returns-clause-counted : goal.returns-clause-counted
returns-clause-counted g c rows tries reads = tried_failed g.D.Disk.state rows tries reads

pub returns-clause-failures : goal.returns-clause-failures
returns-clause-failures g c rows tries reads = tried_failures g.D.Disk.state rows tries reads
