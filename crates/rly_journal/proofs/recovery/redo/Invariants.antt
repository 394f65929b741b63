use Rattle.rly_journal.proofs.Common.{into_iter_items}
use Rattle.rly_journal.proofs.Redone.{IsRedoing}
use Rattle.rly_journal.proofs.recovery.redo.Given as goal

abbrev pub invariant-loop-command : goal.invariant-loop-command
invariant-loop-command l =
    (goal.iterator-loop-command).can_next l.command-iterator
    × (goal.iterator-loop-command).is_finite l.command-iterator
    × IsRedoing l.fn.index l.fn.gate l.fn.commands.items (into_iter_items l.command-iterator) l.place l.index
