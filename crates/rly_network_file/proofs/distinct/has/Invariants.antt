use Rattle.std.proofs.Common.{◌≡◌, ◌==◌, drop}
use Rattle.std.specs.List.{list_any}
use Rattle.rly_network_file.proofs.distinct.has.Given as goal

-- whether the number is there from here on
abbrev pub invariant-loop-other : goal.invariant-loop-other
invariant-loop-other l = list_any (λ y. y == l.number) (drop l.other-index l.numbers) ≡ list_any (λ y. y == l.number) l.numbers
