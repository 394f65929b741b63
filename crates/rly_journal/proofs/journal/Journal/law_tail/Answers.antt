use Rattle.rly_journal.proofs.Reading.{going}
use Rattle.rly_journal.proofs.journal.Journal.law_tail.Goals as goal

pub returns : goal.returns
returns g c honest whole = rw (← c.self.view_is) ((going g.D.Disk.state c.self.view_is whole c.self.invariant.0).durable (rw (← c.self.view_is) at honest))
