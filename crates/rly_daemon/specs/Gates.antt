-- The counts of opened gates.
use Rattle.std.specs.Prelude.{◌≡◌, ℕ, ◌+◌, ◌*◌, ◌-◌, ◌^◌, min}
use Rattle.rly_daemon.specs.declared.gate_tally.GateTally.{GateTally}

-- a segment of the device begins at this address: its gate is there
abbrev pub BeginsSegment : GateTally → ℕ → Type 0
BeginsSegment t place = (segment : ℕ) × (place ≡ t.first + segment * t.length)

-- the count, incremented up to its last value of 64 bits
abbrev pub one_more : ℕ → ℕ
one_more n = min (n + 1) (2 ^ 64 - 1)
