-- Helper for the invariant of a step table. No public contract cites it.
use Rattle.std.specs.Prelude.{ℕ, ◌≡◌, ◌+◌, ◌<◌, List, slice_index}
use Rattle.rly_law.specs.ControlLaw.{step_of}

-- the first entries are the steps for the counts from 1 on
abbrev pub IsTable : ℕ → ℕ → List ℕ → Type 0
IsTable interval entries steps = (i : ℕ) → i < entries → slice_index steps i ≡ step_of interval (i + 1)
