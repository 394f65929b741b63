use Rattle.std.proofs.Common.{◌<◌, ◌≤◌, ◌^◌, arith, length, map, refl, subst}
use Rattle.std.specs.Prelude.{All}
use Rattle.std.proofs.lemmas.Bool.{false≢true, iff_false}
use Rattle.std.proofs.lemmas.List.{length-map, take_all}
use Rattle.rly_segment_checkpoint.proofs.Totals.{hop_among, hop_more}
use Rattle.rly_machine.specs.declared.hop.Hop.{Hop}
use Rattle.rly_machine.specs.declared.hop.Item.{Item}
use Rattle.rly_machine.specs.Kept.{hop_state}
use Rattle.rly_machine.specs.State.{HopState, live_line}
use Rattle.rly_segment_checkpoint.specs.declared.stored.Stored.{Stored}
use Rattle.rly_reclaim.specs.Placed.{LiesElsewhere}
use Rattle.rly_reclaim.proofs.placed.lie_elsewhere.Goals as goal

pub hop_lies_elsewhere-requires-clause-count : goal.hop_lies_elsewhere-requires-clause-count
hop_lies_elsewhere-requires-clause-count c =
    hop_among (λ (h : HopState Stored). length (live_line h) < 2 ^ 64) c.args.hops.now c.loop-hop.hop-index c.hop-item.result c.loop-hop-test.true c.hop-item.is c.requires.counts

pub returns-then-not-hop_lies_elsewhere : goal.returns-then-not-hop_lies_elsewhere
returns-then-not-hop_lies_elsewhere c =
    let Each : HopState Stored → Type 0 = λ h. All (λ (item : Item Stored). LiesElsewhere c.args.geometry.now c.args.own item.payload) (live_line h) in (
      λ test. absurd (false≢true test),
      λ all. absurd (iff_false c.hop_lies_elsewhere.ensures c.if-not-hop_lies_elsewhere.true (hop_among Each c.args.hops.now c.loop-hop.hop-index c.hop-item.result c.loop-hop-test.true c.hop-item.is all)),
    )

pub loop-hop-preserved : goal.loop-hop-preserved
loop-hop-preserved c =
    let Each : HopState Stored → Type 0 = λ h. All (λ (item : Item Stored). LiesElsewhere c.args.geometry.now c.args.own item.payload) (live_line h) in
    hop_more Each c.args.hops.now c.loop-hop.hop-index c.hop-item.result c.loop-hop-test.true c.hop-item.is c.loop-hop.invariant (c.hop_lies_elsewhere.ensures.0 c.if-not-hop_lies_elsewhere.false)

pub returns : goal.returns
returns c =
    let Each : HopState Stored → Type 0 = λ h. All (λ (item : Item Stored). LiesElsewhere c.args.geometry.now c.args.own item.payload) (live_line h) in
    let view : Hop Stored → HopState Stored = hop_state in
    let all : length (map view c.args.hops.now) ≤ c.loop-hop.hop-index = omega (arith, length-map c.args.hops.now view, c.loop-hop-test.false) in (
      λ test. subst (All Each) (take_all c.loop-hop.hop-index (map view c.args.hops.now) all) c.loop-hop.invariant,
      λ elsewhere. refl,
    )
