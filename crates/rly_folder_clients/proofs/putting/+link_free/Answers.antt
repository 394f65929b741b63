use Rattle.std.proofs.Common.{rules}
use Rattle.rly_folder.specs.FolderCalls.{Faulted}
use Rattle.rly_folder_clients.proofs.Lists.{first_links, more_err, more_ok}
use Rattle.rly_folder_clients.proofs.putting.+link_free.Goals as goal

pub returns-in-Some-clause-ok : goal.returns-in-Some-clause-ok
returns-in-Some-clause-ok g t c = more_ok g.F.Folder.state c.args.number c.in-Some.next (search rules)
    (rw c.in-Ok-false.field-0-test at c.in-Ok-false.ensures.trace) _ _ c.link_free.ensures.ok

pub returns-in-Some-clause-err : goal.returns-in-Some-clause-err
returns-in-Some-clause-err g t c = more_err g.F.Folder.state c.args.number c.in-Some.next (search rules)
    (rw c.in-Ok-false.field-0-test at c.in-Ok-false.ensures.trace) _ _ c.link_free.ensures.err

pub returns-in-Err-clause-err : goal.returns-in-Err-clause-err
returns-in-Err-clause-err g t c = (0, first_links g.F.Folder.state c.args.number Faulted c.in-Err.ensures.trace)
