-- The invariant of every state that commands lead to.
use Rattle.std.specs.Prelude.{ℕ, ◌≡◌, ◌+◌, ◌<◌, ◌≤◌, ◌^◌, length, sum, sum_by, All, AllPairs}
use Rattle.rly_core.specs.Limits.{IsWithinLimits}
use Rattle.rly_core.specs.declared.params.Params.{Params}
use Rattle.rly_machine.specs.declared.hop.Item.{Item}
use Rattle.rly_machine.specs.State.{State, HopState, live_line, live_items, live_bytes}
use Rattle.rly_machine.specs.Accepted.{max_seq}

-- one item was taken before another: its id is lower, and its stamp isn't higher
pub record ComesBefore {P : Type 0} (first later : Item P) : Type 0 where
  pub id : first.id < later.id
  pub stamp : first.stamp ≤ later.stamp

-- an item of a hop with the given last time, in a spool with these parameters and this many accepted commands
pub record IsLive {P : Type 0} (len : P → ℕ) (params : Params) (moment seq : ℕ) (item : Item P) : Type 0 where
  pub first : 1 ≤ item.id
  pub last : item.id ≤ seq
  pub stamp : item.stamp ≤ moment
  pub limit : item.limit < 2 ^ 40
  pub length : len item.payload ≤ params.payload

-- one hop of a spool with this many accepted commands
pub record IsSoundHop {P : Type 0} (len : P → ℕ) (params : Params) (seq : ℕ) (h : HopState P) : Type 0 where
  -- the counts add up: each datagram taken waits, is in flight, was dropped, expired or was released
  pub balance : h.taken ≡ length h.queue + length h.flight + h.dropped + h.expired + h.released
  pub taken : h.taken ≤ seq
  pub moment : h.moment < 2 ^ 52
  pub window : length h.flight ≤ params.window
  pub items : All (IsLive len params h.moment seq) (live_line h)
  pub order : AllPairs ComesBefore (live_line h)
  pub first_above_time : h.codel.first_above_time ≤ h.moment + params.interval
  pub drop_next : h.codel.drop_next ≤ h.moment + params.interval
  pub lastcount : h.codel.lastcount ≤ h.codel.count
  pub count : h.codel.count ≤ h.dropped

-- a spool
pub record IsSound {P : Type 0} (len : P → ℕ) (s : State P) : Type 0 where
  pub params : IsWithinLimits s.params
  pub hop_count : length s.hops ≡ s.params.hops
  pub peer_count : length s.lasts ≡ s.params.peers
  pub hops : All (IsSoundHop len s.params s.seq) s.hops
  pub lasts : All (λ last. last ≤ s.seq) s.lasts
  -- the peers' sequence numbers add up to the datagrams that the hops took
  pub numbers : sum s.lasts ≡ sum_by (λ h. h.taken) s.hops
  pub items : live_items s ≤ s.params.items
  pub bytes : live_bytes len s ≤ s.params.bytes
  pub seq : s.seq ≤ max_seq
