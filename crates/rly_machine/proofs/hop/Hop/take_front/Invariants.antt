use Rattle.std.proofs.Common.{◌≡◌, drop, map, take, vec_capacity}
use Rattle.std.specs.VecDeque.{deque_capacity}
use Rattle.rly_machine.specs.Kept.{hop_state}
use Rattle.rly_machine.specs.State.{bytes_of}
use Rattle.rly_machine.proofs.hop.Hop.take_front.Given as goal

-- the items removed from the front of the queue, their ids, and their bytes
abbrev pub invariant-loop-item : goal.invariant-loop-item
invariant-loop-item g l = record {
  kept : hop_state l.self ≡ (record (hop_state l.initial.self) { queue = drop l._item l.initial.self.queue.items });
  capacity : deque_capacity l.self.flight ≡ deque_capacity l.initial.self.flight;
  listed : l.ids.items ≡ map (λ item. item.id) (take l._item l.initial.self.queue.items);
  room : vec_capacity l.ids ≡ vec_capacity l.initial.ids;
  weighed : l.bytes ≡ bytes_of g.C.Content.length_of (take l._item l.initial.self.queue.items);
}
