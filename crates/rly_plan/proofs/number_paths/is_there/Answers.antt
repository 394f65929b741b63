use Rattle.rly_plan.proofs.PassLemmas.{other_row}
use Rattle.rly_plan.proofs.number_paths.is_there.Goals as goal

pub loop-row-preserved : goal.loop-row-preserved
loop-row-preserved g c =
    other_row g.N.Numbered.number c.args.number c.args.rows.now c.loop-row.row-index c.row-item.result c.number.result _ c.loop-row-test.true c.row-item.is c.number.ensures
    c.if-number.false c.loop-row.invariant
