use Rattle.std.proofs.Common.{◌≡◌, ◌++◌, string_bytes, take}
use Rattle.rly_plan_show.specs.CodelText.{hops_codel}
use Rattle.rly_plan_show.proofs.codel.write_codel.Given as goal

abbrev pub invariant-loop-hop : goal.invariant-loop-hop
invariant-loop-hop l =
    (l.number ≡ l.hop-index) × (string_bytes l.text ≡ string_bytes l.initial.text ++ hops_codel l.params (take l.hop-index l.hops))
