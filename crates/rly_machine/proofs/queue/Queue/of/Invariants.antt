use Rattle.std.proofs.Common.{◌≡◌, ◌++◌, length}
use Rattle.rly_machine.proofs.queue.Queue.of.Given as goal

-- the remaining items have room after those in the queue
abbrev pub invariant-loop-item : goal.invariant-loop-item
invariant-loop-item g l = record {
  all : l.queue.items ++ l.rest.items ≡ l.fn.items.items;
  room : l.queue.spare ≡ length l.rest.items;
}

abbrev pub decreases-loop-item : goal.decreases-loop-item
decreases-loop-item g l = length l.rest.items
