use Rattle.std.proofs.Common.{take}
use Rattle.std.specs.Prelude.{All}
use Rattle.rly_machine.specs.Kept.{hop_state}
use Rattle.rly_machine.specs.State.{live_line}
use Rattle.rly_reclaim.specs.Placed.{LiesElsewhere}
use Rattle.rly_reclaim.proofs.placed.hop_lies_elsewhere.Given as goal

-- each payload so far is inline or lies in another segment
abbrev pub invariant-loop-index : goal.invariant-loop-index
invariant-loop-index l = All (λ item. LiesElsewhere l.geometry l.own item.payload) (take l.index (live_line (hop_state l.hop)))
