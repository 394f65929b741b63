use Rattle.rly_journal.proofs.Common.{◌∙◌, ap, length, stored_length}
use Rattle.rly_machine.proofs.Alike.{bytes_alike}
use Rattle.rly_journal.proofs.journal.Journal.byte_count.Goals as goal

pub returns : goal.returns
returns g c =
    rw (← c.self.view_is) (rw (c.byte_count.ensures, c.machine.ensures) (bytes_alike stored_length length c.self.inside.index.spool.state _ c.self.invariant.0.alike))
