use Rattle.std.proofs.Common.{◌≡◌, ◌+◌, ◌≤◌, ◌^◌, ◌++◌, length, vec_capacity}
use Rattle.std.specs.Vec.Iter.{drain_items}
use Rattle.rly_line.specs.Batches.{calls_after, calls_in_batch}
use Rattle.rly_line.proofs.batch.Batch.into_calls.Given as goal

-- the calls that were moved and those of the remaining asks are all of them
abbrev pub invariant-loop-ask : goal.invariant-loop-ask
invariant-loop-ask l =
    (goal.iterator-loop-ask).can_next l.ask-iterator
    × (goal.iterator-loop-ask).is_finite l.ask-iterator
    × (record {
      calls : l.calls.items ++ calls_after l.seat l.number (drain_items l.ask-iterator) ≡ l.fn.calls.items ++ calls_in_batch l.fn.self;
      number : l.number + length (drain_items l.ask-iterator) ≤ 2 ^ 52;
      room : length l.calls.items + length (drain_items l.ask-iterator) ≤ vec_capacity l.calls;
      capacity : vec_capacity l.calls ≡ vec_capacity l.fn.calls;
    })
