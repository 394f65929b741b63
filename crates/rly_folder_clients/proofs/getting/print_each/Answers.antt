use Rattle.std.proofs.Common.{arith, inl, inr, refl, rules}
use Rattle.rly_folder_clients.proofs.GettingLists.{all_handled, none_handled, one_handled, stops_among, stops_on_err}
use Rattle.rly_folder_clients.proofs.getting.print_each.Goals as goal

pub returns-then-count-most-clause-ok : goal.returns-then-count-most-clause-ok
returns-then-count-most-clause-ok g c = all_handled g.F.Folder.state c.args.form c.args.first c.args.numbers.now c.args.most c.loop-number.number-index _ _ _ _ (inr c.if-count-most.true) c.loop-number.invariant

pub returns-in_err-is_printed-clause-err : goal.returns-in_err-is_printed-clause-err
returns-in_err-is_printed-clause-err g c = stops_on_err g.F.Folder.state c.args.form c.args.first c.args.numbers.now c.args.most c.from_residual.result _ _ _ c.from_residual.ensures.1
    (stops_among g.F.Folder.state c.args.form c.args.first c.args.numbers.now c.args.most c.loop-number.number-index _ _ _ _ _ _ _ c.loop-number-test.true refl
    c.loop-number.invariant c.in_err-is_printed.ensures.err)

pub loop-number-preserved : goal.loop-number-preserved
loop-number-preserved g c = one_handled g.F.Folder.state c.args.form c.args.first c.args.numbers.now c.args.most c.loop-number.number-index _ _ _ _ _ _ _ _ _ c.loop-number-test.true refl
    (search arith) c.number_after-last.ensures c.one_if-count.ensures c.loop-number.invariant c.in_ok-is_printed.ensures.ok

pub returns-clause-ok : goal.returns-clause-ok
returns-clause-ok g c = all_handled g.F.Folder.state c.args.form c.args.first c.args.numbers.now c.args.most c.loop-number.number-index _ _ _ _ (inl (search arith)) c.loop-number.invariant
