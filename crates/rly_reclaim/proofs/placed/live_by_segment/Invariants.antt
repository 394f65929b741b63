use Rattle.std.proofs.Common.{◌≡◌, ◌<◌, ℕ, length, map, slice_index, sum_by, take}
use Rattle.rly_machine.specs.Kept.{hop_state}
use Rattle.rly_machine.specs.State.{bytes_of, live_line}
use Rattle.rly_reclaim.specs.Places.{bytes_in}
use Rattle.rly_reclaim.proofs.placed.live_by_segment.Given as goal

-- the hops so far were added
abbrev pub invariant-loop-hop : goal.invariant-loop-hop
invariant-loop-hop l = record {
  size : length l.live ≡ 256;
  added : (t : ℕ) → t < 256
      → slice_index l.live t ≡ sum_by (λ h. bytes_of (bytes_in l.geometry t) (live_line h)) (take l.hop-index (map hop_state l.hops));
}
