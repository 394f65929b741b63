use Rattle.rly_plan.proofs.PassLemmas.{row_found, row_passed, rows_passed}
use Rattle.rly_plan.proofs.number_paths.first_row.Goals as goal

pub returns-in-Some : goal.returns-in-Some
returns-in-Some g c =
    row_found (g.F.Test.fault c.args.test.now) c.args.row c.args.rows.now c.loop-index.index c.index-rows-index.result c.fault.result c.in-Some.spot _
    c.loop-index-test.true c.index-rows-index.is c.fault.ensures c.in-Some.is c.loop-index.invariant

pub loop-index-preserved : goal.loop-index-preserved
loop-index-preserved g c =
    row_passed (g.F.Test.fault c.args.test.now) c.args.row c.args.rows.now c.loop-index.index c.index-rows-index.result c.fault.result _
    c.loop-index-test.true c.index-rows-index.is c.fault.ensures c.in_default.is c.loop-index.invariant

pub returns : goal.returns
returns g c = rows_passed (g.F.Test.fault c.args.test.now) c.args.row c.args.rows.now c.loop-index.index _ c.loop-index-test.false c.loop-index.invariant
