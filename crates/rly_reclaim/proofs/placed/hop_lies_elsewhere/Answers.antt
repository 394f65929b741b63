use Rattle.std.proofs.Common.{◌<◌, ◌≤◌, arith, length, length-append, refl, subst}
use Rattle.std.specs.Prelude.{All}
use Rattle.std.proofs.lemmas.List.{take_all}
use Rattle.std.proofs.lemmas.List.Elements.{All-more}
use Rattle.rly_machine.specs.declared.hop.Item.{Item}
use Rattle.rly_machine.specs.Kept.{hop_state}
use Rattle.rly_machine.specs.State.{live_line}
use Rattle.rly_segment_checkpoint.specs.declared.stored.Stored.{Stored}
use Rattle.rly_reclaim.specs.Placed.{LiesElsewhere}
use Rattle.rly_reclaim.proofs.placed.hop_lies_elsewhere.Goals as goal

pub loop-index-preserved : goal.loop-index-preserved
loop-index-preserved c =
    let h = hop_state c.args.hop.now in
    let Here : Item Stored → Type 0 = λ item. LiesElsewhere c.args.geometry.now c.args.own item.payload in
    let below : c.loop-index.index < length (live_line h) = omega (arith, length-append h.flight h.queue, c.loop-index-test.true, c.len.ensures, c.len-2.ensures.count) in
    All-more Here (live_line h) c.loop-index.index c.live_at.result.now below c.loop-index.invariant
    (subst Here c.live_at.ensures (c.lies_elsewhere.ensures.0 c.if-not-lies_elsewhere.false))

pub returns : goal.returns
returns c =
    let h = hop_state c.args.hop.now in
    let Here : Item Stored → Type 0 = λ item. LiesElsewhere c.args.geometry.now c.args.own item.payload in
    let all : length (live_line h) ≤ c.loop-index.index = omega (arith, length-append h.flight h.queue, c.loop-index-test.false, c.len.ensures, c.len-2.ensures.count) in (
      λ test. subst (All Here) (take_all c.loop-index.index (live_line h) all) c.loop-index.invariant,
      λ elsewhere. refl,
    )
