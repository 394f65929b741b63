use Rattle.std.proofs.Common.{◌≡◌, ◌+◌, drop}
use Rattle.rly_plan.specs.KeyPaths.{first_row}
use Rattle.rly_plan.proofs.number_paths.first_row.Given as goal

abbrev pub invariant-loop-index : goal.invariant-loop-index
invariant-loop-index g l = first_row (g.F.Test.fault l.test) l.row (l.index + 1) (drop l.index l.rows) ≡ first_row (g.F.Test.fault l.test) l.row 1 l.rows
