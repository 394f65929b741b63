use Rattle.std.proofs.Common.{◌≡◌, ◌++◌, take, vec_capacity}
use Rattle.std.specs.Vec.Iter.{drain_items}
use Rattle.rly_line.proofs.batch.Answers.fill.Given as goal

-- the answers that were moved and those that remain are as many as expected
abbrev pub invariant-loop-answer : goal.invariant-loop-answer
invariant-loop-answer l =
    (goal.iterator-loop-answer).can_next l.answer-iterator
    × (goal.iterator-loop-answer).is_finite l.answer-iterator
    × (record {
      filled : l.answers.items ++ drain_items l.answer-iterator ≡ take l.wanted l.fn.given.items;
      room : vec_capacity l.answers ≡ 64;
    })
