-- Helpers of a test: the crash images of two writes. No public contract cites them.
use Rattle.std.specs.Prelude.{◌≡◌, ◌⊎◌, ◌+◌, ◌≤◌, ◌<◌, ℕ, List, length, slice_index}

-- the same bytes, except those of two ranges
pub record SameOutsideBoth (place n other m : ℕ) (old new : List ℕ) : Type 0 where
  pub same_length : length new ≡ length old
  pub each : (i : ℕ) → (i < place) ⊎ (place + n ≤ i) → (i < other) ⊎ (other + m ≤ i)
      → slice_index new i ≡ slice_index old i
