use Rattle.std.proofs.Common.{◌<◌, ◌^◌, length, subst, sym, take}
use Rattle.std.specs.Prelude.{All}
use Rattle.std.proofs.lemmas.Bool.{false≢true, iff_false}
use Rattle.rly_machine.specs.declared.hop.Item.{Item}
use Rattle.rly_machine.specs.Map.{payloads_of}
use Rattle.rly_machine.specs.State.{HopState, live_line}
use Rattle.rly_segment_checkpoint.specs.declared.stored.Stored.{Stored}
use Rattle.rly_reclaim.specs.Placed.{LiesElsewhere}
use Rattle.rly_reclaim.proofs.Placing.{hops_are_short, free_decides, of_items, of_payloads}
use Rattle.rly_reclaim.proofs.placed.is_placed.Goals as goal

pub lie_elsewhere-requires-clause-counts : goal.lie_elsewhere-requires-clause-counts
lie_elsewhere-requires-clause-counts c =
    let Short : HopState Stored → Type 0 = λ h. length (live_line h) < 2 ^ 64 in
    subst (All Short) (sym c.hops.ensures) (hops_are_short c.args.machine.now.state c.law_sound.ensures)

pub returns-then-not-lie_elsewhere : goal.returns-then-not-lie_elsewhere
returns-then-not-lie_elsewhere c =
    let s = c.args.machine.now.state in
    let Here : Stored → Type 0 = LiesElsewhere c.args.geometry.now c.args.own in
    let Each : HopState Stored → Type 0 = λ h. All (λ (item : Item Stored). Here item.payload) (live_line h) in (
      λ test. absurd (false≢true test),
      λ placed. absurd (iff_false c.lie_elsewhere.ensures c.if-not-lie_elsewhere.true (subst (All Each) (sym c.hops.ensures) (of_items Here s.hops placed.elsewhere))),
    )

pub returns : goal.returns
returns c =
    let g = c.args.geometry.now in
    let s = c.args.machine.now.state in
    let Here : Stored → Type 0 = LiesElsewhere g c.args.own in
    let Each : HopState Stored → Type 0 = λ h. All (λ (item : Item Stored). Here item.payload) (live_line h) in
    let elsewhere : All Here (payloads_of s) = of_payloads Here s.hops (subst (All Each) c.hops.ensures (c.lie_elsewhere.ensures.0 c.if-not-lie_elsewhere.false)) in
    free_decides g c.args.own s (take g.segments c.live_by_segment-live.result) c.free_segment.result c.is_some.result elsewhere c.live_by_segment-live.ensures
    c.free_segment.ensures.found c.free_segment.ensures.none c.is_some.ensures
