use Rattle.std.proofs.Common.{◌≡◌, ◌++◌, string_bytes, take}
use Rattle.rly_plan_show.specs.PlanText.{hops_text}
use Rattle.rly_plan_show.proofs.plan_text.write_hops.Given as goal

abbrev pub invariant-loop-hop : goal.invariant-loop-hop
invariant-loop-hop l =
    (l.number ≡ l.hop-index) × (string_bytes l.text ≡ string_bytes l.initial.text ++ hops_text l.moment (take l.hop-index l.hops))
