use Rattle.std.proofs.Common.{◌≡◌, ◌||◌, drop, vec_len}
use Rattle.std.specs.List.{list_any}
use Rattle.rly_plan.specs.Passes.{repeats}
use Rattle.rly_plan.proofs.PassLemmas.{is_marked}
use Rattle.rly_plan.proofs.passes.repeats.Given as goal

-- a number occurs twice iff one from here on is marked, or repeats from here on
abbrev pub invariant-loop-number : goal.invariant-loop-number
invariant-loop-number l =
    (vec_len l.seen ≡ 65536)
    × ((list_any (is_marked l.seen.items) (drop l.number-index l.numbers) || repeats (drop l.number-index l.numbers)) ≡ repeats l.numbers)
