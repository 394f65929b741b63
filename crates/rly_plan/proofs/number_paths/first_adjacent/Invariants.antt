use Rattle.std.proofs.Common.{◌≡◌, ◌-◌, drop}
use Rattle.rly_plan.specs.KeyPaths.{first_adjacent}
use Rattle.rly_plan.proofs.number_paths.first_adjacent.Given as goal

-- the result is that of the contacts from the one before this on
abbrev pub invariant-loop-index : goal.invariant-loop-index
invariant-loop-index g l = first_adjacent g.B.Beside.test l.index (drop (l.index - 1) l.contacts) ≡ first_adjacent g.B.Beside.test 1 l.contacts
