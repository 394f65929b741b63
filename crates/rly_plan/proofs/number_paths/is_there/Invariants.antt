use Rattle.std.proofs.Common.{◌≡◌, ◌==◌, drop, map}
use Rattle.std.specs.List.{list_any}
use Rattle.rly_plan.proofs.number_paths.is_there.Given as goal

abbrev pub invariant-loop-row : goal.invariant-loop-row
invariant-loop-row g l =
    list_any (λ n. n == l.number) (map g.N.Numbered.number (drop l.row-index l.rows)) ≡ list_any (λ n. n == l.number) (map g.N.Numbered.number l.rows)
