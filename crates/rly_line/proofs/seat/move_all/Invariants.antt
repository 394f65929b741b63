use Rattle.std.proofs.Common.{◌≡◌, ◌+◌, ◌≤◌, ◌++◌, length, vec_capacity}
use Rattle.std.specs.Vec.Iter.{drain_items}
use Rattle.rly_line.proofs.seat.move_all.Given as goal

-- the elements that were moved and those that remain are all elements
abbrev pub invariant-loop-item : goal.invariant-loop-item
invariant-loop-item g l =
    (goal.iterator-loop-item g).can_next l.item-iterator
    × (goal.iterator-loop-item g).is_finite l.item-iterator
    × (record {
      moved : l.to.items ++ drain_items l.item-iterator ≡ l.fn.to.items ++ l.fn.from.items;
      room : length l.to.items + length (drain_items l.item-iterator) ≤ vec_capacity l.to;
      capacity : vec_capacity l.to ≡ vec_capacity l.fn.to;
    })
