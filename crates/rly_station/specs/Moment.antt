-- Microseconds of a clock's time.
use Rattle.std.specs.Prelude.{ℕ, ◌-◌, ◌/◌, ◌^◌, min, Option, Some, None}
use Rattle.std.specs.Duration.{as_nanos}
use Rattle.std.specs.declared.time.Duration.{Duration}

-- a time in microseconds: 0 for none, and at most the last value of 64 bits
abbrev pub moment_of : Option Duration → ℕ
moment_of None = 0
moment_of (Some time) = min (as_nanos time / 1000) (2 ^ 64 - 1)
