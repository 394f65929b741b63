use Rattle.std.proofs.Common.{arith, ◌∙◌, ap, set}
use Rattle.std.proofs.lemmas.List.Edits.{map_over_more}
use Rattle.rly_hop.specs.Receiver.{Receiver}
use Rattle.rly_hop.specs.Receiving.{receiver}
use Rattle.rly_world_pair.proofs.PairRelays.{all_anew}
use Rattle.rly_world_pair.proofs.relays.begin_anew.Goals as goal

pub loop-core-preserved : goal.loop-core-preserved
loop-core-preserved c =
    ap (λ (r : Receiver). set c.loop-core.cores c.loop-core.core-index r) c.new.ensures
    ∙ map_over_more (λ (_ : Receiver). receiver (record { 0 = 2 }) (record { 0 = 1 })) c.args.cores.now c.loop-core.cores c.loop-core.core-index c.core-item.result
    (omega (arith, c.loop-core-test.true)) c.loop-core.invariant c.core-item.is

pub returns : goal.returns
returns c =
    c.loop-core.invariant
    ∙ all_anew c.args.cores.now c.loop-core.core-index (receiver (record { 0 = 2 }) (record { 0 = 1 })) (omega (arith, c.loop-core-test.false, c.loop-core.auto.core-index-end))
