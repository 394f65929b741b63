use Rattle.std.proofs.Common.{◌≡◌, ◌≤◌, length, reverse, vec_capacity}
use Rattle.std.specs.Vec.Iter.{drain_items}
use Rattle.rly_threads_workers.proofs.Receivers.{Answering}
use Rattle.rly_threads_workers.proofs.receiver.ReceiverWorker.answer.Given as goal

-- the answers so far were passed to the cores that waited for them
abbrev pub invariant-loop-answer : goal.invariant-loop-answer
invariant-loop-answer g l =
    (goal.iterator-loop-answer g).can_next l.answer-iterator
    × (goal.iterator-loop-answer g).is_finite l.answer-iterator
    × (record {
      each : length (drain_items l.answer-iterator) ≤ length l.waiting.items;
      capacity : vec_capacity l.waiting ≡ vec_capacity l.fn.takes.waiting;
      answering : Answering l.fn.ends l.ends
          l.fn.takes.waiting.items (reverse l.waiting.items) l.fn.takes.answers.items (drain_items l.answer-iterator) l.last;
    })
