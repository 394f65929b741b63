use Rattle.std.proofs.Common.{◌≡◌, ◌+◌, ◌≤◌, length, vec_capacity}
use Rattle.std_alloc.specs.Vec.Iter.{drain_items}
use Rattle.rly_journal_fetch.proofs.Answered.{IsAnswering}
use Rattle.rly_journal_fetch.proofs.answers.answer_all.Given as goal

abbrev pub invariant-loop-outcome : goal.invariant-loop-outcome
invariant-loop-outcome g l =
    (goal.iterator-loop-outcome g).can_next l.outcome-iterator
    × (goal.iterator-loop-outcome g).is_finite l.outcome-iterator
    × IsAnswering g.D.Disk.state l.fn.outcomes.items (drain_items l.outcome-iterator) l.fn.answers.items l.answers.items l.fn.disk l.disk
    × (length l.answers.items + length (drain_items l.outcome-iterator) ≤ vec_capacity l.answers)
    × (vec_capacity l.answers ≡ vec_capacity l.fn.answers)
