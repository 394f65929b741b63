use Rattle.rly_station.proofs.spool_warning.SpoolWarningDisplay.fmt.Goals as goal

pub returns-in-Filling-clause-writes : goal.returns-in-Filling-clause-writes
returns-in-Filling-clause-writes g c = rw c.in-Filling.is c.write-in-Filling.ensures.writes

pub returns-in-Relieved-clause-writes : goal.returns-in-Relieved-clause-writes
returns-in-Relieved-clause-writes g c = rw c.in-Relieved.is c.write-in-Relieved.ensures.writes
