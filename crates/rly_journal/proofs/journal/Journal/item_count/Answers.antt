use Rattle.rly_journal.proofs.Common.{◌∙◌, ap, length, stored_length}
use Rattle.rly_machine.proofs.Alike.{items_alike}
use Rattle.rly_journal.proofs.journal.Journal.item_count.Goals as goal

pub returns : goal.returns
returns g c =
    rw (← c.self.view_is) (rw (c.item_count.ensures, c.machine.ensures) (items_alike stored_length length c.self.inside.index.spool.state _ c.self.invariant.0.alike))
