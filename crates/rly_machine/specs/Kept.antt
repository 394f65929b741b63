-- The state in a machine's fields.
use Rattle.std.specs.Prelude.{ℕ, ◌-◌, List, map, Vec}
use Rattle.std.specs.VecDeque.{deque_capacity, deque_len}
use Rattle.rly_core.specs.declared.params.Params.{Params}
use Rattle.rly_machine.specs.declared.hop.Hop.{Hop}
use Rattle.rly_machine.specs.State.{State, HopState}

-- the state of a hop, from its queues
abbrev pub hop_state : {P : Type 0} → Hop P → HopState P
hop_state h = record {
  queue = h.queue.items;
  flight = h.flight.items;
  codel = h.codel;
  moment = h.moment;
  taken = h.taken;
  dropped = h.dropped;
  expired = h.expired;
  released = h.released;
}

-- the state of a machine, from its fields
abbrev pub state_of : {P A B : Type 0} → Params → Vec (Hop P) A → Vec ℕ B → ℕ → State P
state_of params hops lasts seq =
    record { params = params; hops = map hop_state hops.items; lasts = lasts.items; seq = seq }

-- the spare capacity of each queue
abbrev pub queue_spare_of : {P A : Type 0} → Vec (Hop P) A → List ℕ
queue_spare_of hops = map (λ h. h.queue.spare) hops.items

-- the spare capacity of each flight
abbrev pub flight_spare_of : {P A : Type 0} → Vec (Hop P) A → List ℕ
flight_spare_of hops = map (λ h. deque_capacity h.flight - deque_len h.flight) hops.items
