use Rattle.std.proofs.Common.{sym, ◌∙◌, arith}
use Rattle.rly_plan.proofs.PassLemmas.{adjacent_passed, none_adjacent_last}
use Rattle.rly_plan.proofs.number_paths.first_adjacent.Goals as goal

pub returns : goal.returns
returns g c = sym (none_adjacent_last g.B.Beside.test c.loop-index.index c.args.contacts.now c.loop-index.index (omega arith)) ∙ c.loop-index.invariant

pub loop-index-preserved : goal.loop-index-preserved
loop-index-preserved g c =
    adjacent_passed g.B.Beside.test c.args.contacts.now c.loop-index.index _ _ _ (omega arith) c.loop-index-test.true (sym c.passes.ensures ∙ c.if-not-passes.false) c.loop-index.invariant
