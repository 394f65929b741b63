use Rattle.rly_folder_clients.proofs.Lists.{at_sync, put_fails}
use Rattle.rly_folder.specs.FolderModel.{file_with}
use Rattle.rly_folder_clients.proofs.putting.put.Goals as goal

pub returns-in_err-number-clause-fails : goal.returns-in_err-number-clause-fails
returns-in_err-number-clause-fails g c = put_fails g.F.Folder.state (file_with c.args.bytes.now c.args.limit) c.args.now c.max.result c.deref.result.now (rw c.in-Some.ensures.some at c.max.ensures)
    (record { makes = c.in-Ok.ensures.trace; listing = λ honest. rw c.deref.ensures.value (c.in-Ok.ensures.names honest) })
    _ c.args.most c.from_residual.result c.in_err-number.field-0.0 c.from_residual.ensures.1 c.in_err-number.ensures.err

pub returns-clause-fails : goal.returns-clause-fails
returns-clause-fails g c = at_sync g.F.Folder.state (file_with c.args.bytes.now c.args.limit) c.args.now c.max.result c.deref.result.now (rw c.in-Some.ensures.some at c.max.ensures)
    (record { makes = c.in-Ok.ensures.trace; listing = λ honest. rw c.deref.ensures.value (c.in-Ok.ensures.names honest) })
    c.in_ok-number.number c.in_ok-number.ensures.ok c.in-Err.ensures.trace
