use Rattle.std.proofs.Common.{◌≡◌, drop, map}
use Rattle.rly_plan.specs.Passes.{repeats}
use Rattle.rly_network_file.specs.Ids.{Neighbours}
use Rattle.rly_network_file.proofs.distinct.numbers_repeat.Given as goal

-- whether a station is there twice from here on
abbrev pub invariant-loop-index : goal.invariant-loop-index
invariant-loop-index l =
    repeats (map (λ (s : Neighbours). s.number) (drop l.index l.stations)) ≡ repeats (map (λ (s : Neighbours). s.number) l.stations)
