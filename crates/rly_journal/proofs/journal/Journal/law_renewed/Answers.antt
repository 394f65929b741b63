use Rattle.rly_journal.proofs.Reading.{going}
use Rattle.rly_journal.proofs.Renewed.{renewing_law}
use Rattle.rly_journal.proofs.journal.Journal.law_renewed.Goals as goal

pub returns : goal.returns
returns g c honest whole =
    rw (← c.self.view_is) (renewing_law (going g.D.Disk.state c.self.view_is whole c.self.invariant.0)
    (rw (← c.self.view_is) at c.law_sound.ensures) c.law_wide.ensures (rw (← c.self.view_is) at honest))
