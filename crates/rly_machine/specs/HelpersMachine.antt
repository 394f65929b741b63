-- Helpers of the machine's private functions and of its invariant. No public contract cites them.
use Rattle.std.specs.Prelude.{ℕ, ◌≡◌, ◌≤◌, true}
use Rattle.rly_core.specs.declared.ids.HopId.{HopId}
use Rattle.rly_machine.specs.declared.hop.Hop.{Hop}
use Rattle.rly_machine.specs.Accepted.{max_seq}
use Rattle.rly_machine.specs.Kept.{hop_state}
use Rattle.rly_machine.specs.State.{State, has_hop, hop_at, live_items, live_bytes}
use Rattle.rly_machine.specs.Sound.{IsSound, IsSoundHop}

-- a machine's state is sound, and its counts are the state's
pub record KeepsCounts {P : Type 0} (len : P → ℕ) (s : State P) (item_count byte_count : ℕ) : Type 0 where
  pub sound : IsSound len s
  pub items : item_count ≡ live_items s
  pub bytes : byte_count ≡ live_bytes len s

-- a hop that was read from a machine is the state's hop, and is sound
pub record IsHopAt {P : Type 0} (len : P → ℕ) (s : State P) (hop : HopId) (found : Hop P) : Type 0 where
  pub there : has_hop s hop ≡ true
  pub same : hop_state found ≡ hop_at s hop
  pub sound : IsSoundHop len s.params s.seq (hop_state found)
  pub seq : s.seq ≤ max_seq
