use Rattle.std.proofs.Common.{◌≤◌, arith, slice_index, subst}
use Rattle.rly_machine.proofs.Restoring.{weighed_le, weighed_more}
use Rattle.std.specs.Prelude.{Option, Some}
use Rattle.rly_reclaim.specs.Places.{bytes_in}
use Rattle.rly_journal_index.specs.HelpersCounters.{IsPart, IsPartIfAny, items_of, part_in}
use Rattle.rly_journal_index.specs.declared.segment_counters.Part.{Part}
use Rattle.rly_journal_index.proofs.Parts.{part_item}
use Rattle.rly_journal_index.proofs.segment_counters.take_off.Goals as goal

pub take_off_payload-requires-clause-least : goal.take_off_payload-requires-clause-least
take_off_payload-requires-clause-least c t lt =
    let g = c.args.geometry.now in
    let s = c.args.machine.now.state in
    let part = c.in-Some.part in
    let is : IsPart s part = subst (IsPartIfAny s) c.in-Some.is c.requires.part in
    let at = part_item s part c.hops.result.now c.index-hops-part.result c.loop-index.index c.live_at.result.now is c.hops.ensures c.index-hops-part.is c.loop-index-test.true c.live_at.ensures in
    omega (
      arith,
      c.loop-index.invariant t lt,
      weighed_le (bytes_in g t) (items_of s (Some part)) c.loop-index.index c.live_at.result.now at.0 at.1,
      subst (λ (o : Option Part). part_in g t s o ≤ slice_index c.args.live.now t) c.in-Some.is (c.requires.least t lt),
    )

pub loop-index-preserved : goal.loop-index-preserved
loop-index-preserved c t lt =
    let g = c.args.geometry.now in
    let s = c.args.machine.now.state in
    let part = c.in-Some.part in
    let is : IsPart s part = subst (IsPartIfAny s) c.in-Some.is c.requires.part in
    let at = part_item s part c.hops.result.now c.index-hops-part.result c.loop-index.index c.live_at.result.now is c.hops.ensures c.index-hops-part.is c.loop-index-test.true c.live_at.ensures in
    omega (
      arith,
      c.loop-index.invariant t lt,
      c.take_off_payload.ensures t lt,
      weighed_more (bytes_in g t) (items_of s (Some part)) c.loop-index.index c.live_at.result.now at.0 at.1,
    )
