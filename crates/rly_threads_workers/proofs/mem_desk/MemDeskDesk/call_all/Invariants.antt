use Rattle.std.proofs.Common.{◌≡◌, ◌+◌, ◌≤◌, ◌++◌, length, map, vec_capacity}
use Rattle.std.specs.Vec.Iter.{drain_items}
use Rattle.rly_threads_workers.proofs.mem_desk.MemDeskDesk.call_all.Given as goal

-- the asks that were answered and the remaining ones are all of them
abbrev pub invariant-loop-ask : goal.invariant-loop-ask
invariant-loop-ask g l =
    (goal.iterator-loop-ask g).can_next l.ask-iterator
    × (goal.iterator-loop-ask g).is_finite l.ask-iterator
    × (record {
      said : map (λ x. x.0.value) l.exchanged.items ++ drain_items l.ask-iterator ≡ l.fn.asks.items;
      given : map (λ x. x.1.value) l.exchanged.items ≡ l.answers.items;
      room : length l.answers.items + length (drain_items l.ask-iterator) ≤ vec_capacity l.answers;
      capacity : vec_capacity l.answers ≡ vec_capacity l.fn.answers;
      same : l.self.asked ≡ l.fn.self.asked;
    })
