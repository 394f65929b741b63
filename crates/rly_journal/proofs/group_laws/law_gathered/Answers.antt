use Rattle.rly_journal.proofs.Gathered.{gathered_index, gathered_kept}
use Rattle.rly_journal.proofs.group_laws.law_gathered.Goals as goal

pub returns-clause-index : goal.returns-clause-index
returns-clause-index g c = gathered_index

pub returns-clause-kept : goal.returns-clause-kept
returns-clause-kept g c geometry segment gate end commands more s t layout there above below room holds index kept =
    gathered_kept (g.D.Disk.state c.args.disk.now) geometry segment gate end commands more s t (g.met.D.Disk.consistent c.args.disk.now)
    layout there above below room holds index kept
