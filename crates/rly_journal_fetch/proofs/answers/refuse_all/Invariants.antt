use Rattle.std.proofs.Common.{◌≡◌, ◌+◌, ◌≤◌, ◌++◌, length, map, vec_capacity}
use Rattle.std_alloc.specs.Vec.Iter.{drain_items}
use Rattle.rly_journal_fetch.specs.FetchReads.{refused_as}
use Rattle.rly_journal_fetch.proofs.answers.refuse_all.Given as goal

abbrev pub invariant-loop-outcome : goal.invariant-loop-outcome
invariant-loop-outcome l =
    (goal.iterator-loop-outcome).can_next l.outcome-iterator
    × (goal.iterator-loop-outcome).is_finite l.outcome-iterator
    × (l.answers.items ++ map (refused_as l.refusal l.position) (drain_items l.outcome-iterator)
    ≡ l.fn.answers.items ++ map (refused_as l.refusal l.position) l.fn.outcomes.items)
    × (length l.answers.items + length (drain_items l.outcome-iterator) ≤ vec_capacity l.answers)
    × (vec_capacity l.answers ≡ vec_capacity l.fn.answers)
