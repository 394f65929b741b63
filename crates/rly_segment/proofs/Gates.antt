-- The effect of a write of one gate.
use Rattle.rly_segment.proofs.Common.{[], ◌+◌, ◌∷◌, ◌≤◌, arith, IsClosed, length, List, bytes_after_write, places, ℕ}

-- a 0 closes it
pub zero_closes : (place : ℕ) (old : List ℕ) → place + 1 ≤ length old → IsClosed (bytes_after_write place (0 ∷ []) old) place
zero_closes place old within opened = grind (arith, places)
