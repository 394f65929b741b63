use Rattle.std.proofs.Common.{arith}
use Rattle.rly_plan.proofs.PassLemmas.{none_marked, repeats_step}
use Rattle.rly_plan.proofs.passes.repeats.Goals as goal

pub loop-number-init : goal.loop-number-init
loop-number-init c = (omega (arith, c.in_ok-seen.ensures.len, c.from.ensures), none_marked _ _ c.in_ok-seen.ensures.unset)

pub loop-number-preserved : goal.loop-number-preserved
loop-number-preserved c = (
  c.loop-number.invariant.0,
  repeats_step c.loop-number.seen.items c.args.numbers.now c.loop-number.number-index _ c.loop-number-test.true
      (omega (arith, c.type_inv.numbers c.loop-number.number-index, c.loop-number.seen.ok.0, c.loop-number.invariant.0)) c.index.ensures c.if-index.false c.loop-number.invariant.1,
)
