use Rattle.std.proofs.Common.{arith}
use Rattle.rly_folder.specs.FolderModel.{as_file}
use Rattle.rly_folder_clients.proofs.GettingLists.{old_ok, output_err, printed_err, printed_ok}
use Rattle.rly_folder_clients.proofs.getting.print_next.Goals as goal

pub returns-then-number-last-clause-ok : goal.returns-then-number-last-clause-ok
returns-then-number-last-clause-ok g c = old_ok g.F.Folder.state c.args.form c.args.last c.args.number _ _ _ c.if-number-last.true c.remove_old.result c.remove_old.ensures.ok

pub returns-in-Ok-clause-ok : goal.returns-in-Ok-clause-ok
returns-in-Ok-clause-ok g c = printed_ok g.F.Folder.state c.args.form c.args.last c.args.number _ _ _ _ _ (search arith) (as_file c.in-Some.file)
    (rw c.in-Some.is at c.in_ok-file.ensures.ok) (rw c.deref.ensures.value at c.in-Ok.ensures.whole) c.keep_and_remove.result c.keep_and_remove.ensures.ok

pub returns-in-Ok-clause-err : goal.returns-in-Ok-clause-err
returns-in-Ok-clause-err g c = printed_err g.F.Folder.state c.args.form c.args.last c.args.number _ _ _ _ _ (search arith) (as_file c.in-Some.file)
    (rw c.in-Some.is at c.in_ok-file.ensures.ok) (rw c.deref.ensures.value at c.in-Ok.ensures.whole) c.keep_and_remove.result c.keep_and_remove.ensures.err

pub returns-clause-err : goal.returns-clause-err
returns-clause-err g c = output_err g.F.Folder.state c.args.form c.args.last c.args.number (g.W.Write.contents c.args.out.now) (g.W.Write.contents c.print.new.out) (search arith) (as_file c.in-Some.file)
    (rw c.in-Some.is at c.in_ok-file.ensures.ok) (rw c.deref.ensures.value at c.in-Err.ensures.begun)
