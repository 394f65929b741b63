use Rattle.rly_journal.proofs.Common.{drain_items, length, refusals, vec_capacity, ◌++◌, ◌+◌, ◌≡◌, ◌≤◌}
use Rattle.rly_journal.proofs.evaluation.refuse_calls.Given as goal

abbrev pub invariant-loop-call : goal.invariant-loop-call
invariant-loop-call l =
    (goal.iterator-loop-call).can_next l.call-iterator
    × (goal.iterator-loop-call).is_finite l.call-iterator
    × (l.answers.items ++ refusals l.refusal l.position (drain_items l.call-iterator) ≡ l.fn.answers.items ++ refusals l.refusal l.position l.fn.calls.items)
    × (length l.answers.items + length (drain_items l.call-iterator) ≤ vec_capacity l.answers)
    × (vec_capacity l.answers ≡ vec_capacity l.fn.answers)
