use Rattle.std.proofs.Common.{◌≡◌, ◌+◌, ◌<◌, ℕ, drop, slice_index, take}
use Rattle.rly_machine.specs.State.{bytes_of, hop_at, live_line}
use Rattle.rly_reclaim.specs.Places.{bytes_in}
use Rattle.rly_journal_index.proofs.segment_counters.take_off.Given as goal

-- the items so far were subtracted
abbrev pub invariant-loop-index : goal.invariant-loop-index
invariant-loop-index l = (t : ℕ) → t < l.geometry.segments
    → slice_index l.live t + bytes_of (bytes_in l.geometry t) (take l.index (take l.part.count (drop l.part.from (live_line (hop_at l.machine.state l.part.hop))))) ≡ slice_index l.fn.live t
