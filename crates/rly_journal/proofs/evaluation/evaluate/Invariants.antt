use Rattle.rly_journal.proofs.Common.{drain_items, length, map, vec_capacity, ◌+◌, ◌≡◌, ◌≤◌}
use Rattle.rly_journal.proofs.Evaluating.{IsEvaluating}
use Rattle.rly_journal.proofs.evaluation.evaluate.Given as goal

abbrev pub invariant-loop-call : goal.invariant-loop-call
invariant-loop-call l = record {
  can_next : (goal.iterator-loop-call).can_next l.call-iterator;
  is_finite : (goal.iterator-loop-call).is_finite l.call-iterator;
  so_far : IsEvaluating l.gate l.fn.index l.index l.group (map (λ e. e.0.value) l.fn.accepted.items) (map (λ e. e.0.value) l.accepted.items)
      l.fn.calls.items (drain_items l.call-iterator) l.outcomes.items;
  room : length l.outcomes.items + length (drain_items l.call-iterator) ≤ vec_capacity l.outcomes;
  capacity : vec_capacity l.outcomes ≡ vec_capacity l.fn.outcomes;
}
