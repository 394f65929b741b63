use Rattle.std.proofs.Common.{◌≡◌, ◌+◌, ◌≤◌, ◌++◌, length, vec_capacity}
use Rattle.std_alloc.specs.Vec.Iter.{into_iter_items}
use Rattle.rly_world_relay.proofs.batch.Batch.add_to.Given as goal

abbrev pub invariant-loop-call : goal.invariant-loop-call
invariant-loop-call l =
    (goal.iterator-loop-call).can_next l.call-iterator
    × (goal.iterator-loop-call).is_finite l.call-iterator
    × (l.calls.items ++ into_iter_items l.call-iterator ≡ l.fn.calls.items ++ l.fn.self)
    × (length l.calls.items + length (into_iter_items l.call-iterator) ≤ vec_capacity l.calls)
    × (vec_capacity l.calls ≡ vec_capacity l.fn.calls)
