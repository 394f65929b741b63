-- The state of a spool, over any payload P. No index, cache or buffer is part of it.
use Rattle.std.specs.Prelude.{ℕ, ◌+◌, ◌-◌, Bool, nat_lt, nat_le, ◌&&◌}
use Rattle.std.specs.Prelude.{List, [], ◌++◌, length, replicate, slice_index, slice_index_or, sum_by}
use Rattle.rly_core.specs.declared.ids.HopId.{HopId}
use Rattle.rly_core.specs.declared.ids.PeerId.{PeerId}
use Rattle.rly_core.specs.declared.params.Params.{Params}
use Rattle.rly_codel.specs.Start.{new_codel}
use Rattle.rly_codel.specs.declared.state.CodelState.{CodelState}
use Rattle.rly_machine.specs.declared.hop.Item.{Item}

-- a queue in contracts: the waiting items, the front first, and its spare capacity
pub record QueueState (P : Type 0) : Type 0 where
  pub items : List (Item P)
  pub spare : ℕ

-- one next hop: the waiting items, those in flight, CoDel's state, the last time of the link clock, and the counts
pub record HopState (P : Type 0) : Type 0 where
  pub queue : List (Item P)
  pub flight : List (Item P)
  pub codel : CodelState
  pub moment : ℕ
  pub taken : ℕ
  pub dropped : ℕ
  pub expired : ℕ
  pub released : ℕ

-- a spool: its parameters, its hops, the last number taken from each peer, and the number of accepted commands
pub record State (P : Type 0) : Type 0 where
  pub params : Params
  pub hops : List (HopState P)
  pub lasts : List ℕ
  pub seq : ℕ

-- a machine in contracts: its state and, for each hop, the spare capacity of its queue and its flight
pub record Spool (P : Type 0) : Type 0 where
  pub state : State P
  pub queue_spare : List ℕ
  pub flight_spare : List ℕ

-- the room for a command in contracts: its capacity for ids of expired and of dropped items
pub record RoomState : Type 0 where
  pub expired : ℕ
  pub dropped : ℕ

-- a new, empty hop
abbrev pub new_hop : {P : Type 0} → HopState P
new_hop = record {
  queue = [];
  flight = [];
  codel = new_codel;
  moment = 0;
  taken = 0;
  dropped = 0;
  expired = 0;
  released = 0;
}

-- a new, empty spool
abbrev pub new_state : {P : Type 0} → Params → State P
new_state params =
    record { params = params; hops = replicate params.hops new_hop; lasts = replicate params.peers 0; seq = 0 }

-- true if a number is between 1 and the given count
abbrev pub is_among : ℕ → ℕ → Bool
is_among count number = nat_lt 0 number && nat_le number count

-- true if the hop exists
abbrev pub has_hop : {P : Type 0} → State P → HopId → Bool
has_hop s hop = is_among (length s.hops) hop.0

-- true if the peer exists
abbrev pub has_peer : {P : Type 0} → State P → PeerId → Bool
has_peer s peer = is_among (length s.lasts) peer.0

-- the hop of that number
abbrev pub hop_at : {P : Type 0} → State P → HopId → HopState P
hop_at s hop = slice_index_or s.hops (hop.0 - 1) new_hop

-- the last number taken from a peer
abbrev pub last_at : {P : Type 0} → State P → PeerId → ℕ
last_at s peer = slice_index s.lasts (peer.0 - 1)

-- a hop's live items in the order of their ids: those in flight, then those that wait
abbrev pub live_line : {P : Type 0} → HopState P → List (Item P)
live_line h = h.flight ++ h.queue

-- the payload bytes of items
abbrev pub bytes_of : {P : Type 0} → (P → ℕ) → List (Item P) → ℕ
bytes_of len items = sum_by (λ item. len item.payload) items

-- the live items of a spool
abbrev pub live_items : {P : Type 0} → State P → ℕ
live_items s = sum_by (λ h. length (live_line h)) s.hops

-- the live payload bytes of a spool
abbrev pub live_bytes : {P : Type 0} → (P → ℕ) → State P → ℕ
live_bytes len s = sum_by (λ h. bytes_of len (live_line h)) s.hops

-- the custody number of the next item that goes into flight
abbrev pub next_number : {P : Type 0} → HopState P → ℕ
next_number h = h.released + length h.flight + 1
