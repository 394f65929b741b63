use Rattle.std.proofs.Common.{map, take}
use Rattle.std.specs.Prelude.{All}
use Rattle.rly_machine.specs.Kept.{hop_state}
use Rattle.rly_machine.specs.State.{live_line}
use Rattle.rly_reclaim.specs.Placed.{LiesElsewhere}
use Rattle.rly_reclaim.proofs.placed.lie_elsewhere.Given as goal

-- each payload of the hops so far is inline or lies in another segment
abbrev pub invariant-loop-hop : goal.invariant-loop-hop
invariant-loop-hop l = All (λ h. All (λ item. LiesElsewhere l.geometry l.own item.payload) (live_line h)) (take l.hop-index (map hop_state l.hops))
