-- Numbers in order.
use Rattle.std.specs.Prelude.{◌↔◌, ℕ, List, Contains}
use Rattle.std.specs.List.Sorted.{IsStrictlyIncreasing}

-- the same numbers, the least first, each once
pub record IsInOrder (numbers ordered : List ℕ) : Type 0 where
  pub increasing : IsStrictlyIncreasing ordered
  pub each : (number : ℕ) → Contains ordered number ↔ Contains numbers number
