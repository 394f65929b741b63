use Rattle.std.proofs.Common.{◌≡◌, ◌+◌, ◌<◌, ℕ, length, slice_index, take}
use Rattle.rly_machine.specs.Kept.{hop_state}
use Rattle.rly_machine.specs.State.{bytes_of, live_line}
use Rattle.rly_reclaim.specs.Places.{bytes_in}
use Rattle.rly_reclaim.proofs.placed.add_hop.Given as goal

-- the items so far were added
abbrev pub invariant-loop-index : goal.invariant-loop-index
invariant-loop-index l = (t : ℕ) → t < length l.fn.live
    → slice_index l.live t ≡ slice_index l.fn.live t + bytes_of (bytes_in l.geometry t) (take l.index (live_line (hop_state l.hop)))
