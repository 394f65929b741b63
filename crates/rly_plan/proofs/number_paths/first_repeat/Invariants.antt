use Rattle.std.proofs.Common.{◌≡◌, ◌+◌, ◌-◌, ◌≤◌, length, map}
use Rattle.rly_plan.specs.KeyPaths.{first_repeat}
use Rattle.rly_plan.proofs.number_paths.first_repeat.Given as goal

-- the remaining numbers count from the number of their front
abbrev pub invariant-loop-front : goal.invariant-loop-front
invariant-loop-front g l =
    (first_repeat (length l.rows - length l.rest + 1) (map g.N.Numbered.number l.rest) ≡ first_repeat 1 (map g.N.Numbered.number l.rows))
    × (length l.rest ≤ length l.rows)

abbrev pub decreases-loop-front : goal.decreases-loop-front
decreases-loop-front g l = length l.rest
