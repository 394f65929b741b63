-- Helpers: the results of the private steps of a group's read. No public contract cites them.
use Rattle.std.specs.Prelude.{ℕ, ◌+◌, ◌<◌, ◌^◌, List, Result, Ok, Err}
use Rattle.byteorder.specs.Endian.{big_bytes}
use Rattle.rly_gate.specs.declared.read.GroupFault.{GroupFault}
use Rattle.rly_gate.specs.declared.read.GroupFault.TheVariants.{OutOfMemory, Damaged, Device}
use Rattle.rly_gate.specs.Group.{StandsAt}
use Rattle.rly_gate.specs.GroupReads.{HoldsNone}

-- the result of the read of the length after an open gate
abbrev pub IsReadLength : List ℕ → ℕ → ℕ → Result ℕ GroupFault → Type 0
IsReadLength image at end (Ok n) = StandsAt image (at + 1) (big_bytes 4 n) × (n < 2 ^ 32)
IsReadLength image at end (Err Damaged) = HoldsNone image at end
IsReadLength image at end (Err OutOfMemory) = Unit {0}
IsReadLength image at end (Err Device) = Unit {0}
