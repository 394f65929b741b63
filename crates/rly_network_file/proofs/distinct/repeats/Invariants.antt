use Rattle.std.proofs.Common.{◌≡◌, drop}
use Rattle.rly_plan.specs.Passes.{repeats}
use Rattle.rly_network_file.proofs.distinct.repeats.Given as goal

-- whether a number occurs twice from here on
abbrev pub invariant-loop-index : goal.invariant-loop-index
invariant-loop-index l = repeats (drop l.index l.numbers) ≡ repeats l.numbers
