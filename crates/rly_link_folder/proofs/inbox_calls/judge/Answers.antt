use Rattle.std.proofs.Common.{None, Some, sym, ◌∙◌}
use Rattle.rly_folder.specs.FolderModel.{as_file}
use Rattle.rly_link_folder.proofs.Judging.{judged}
use Rattle.rly_link_folder.proofs.inbox_calls.judge.Goals as goal

pub returns-in-None-reason-clause-ok : goal.returns-in-None-reason-clause-ok
returns-in-None-reason-clause-ok g c = judged g.F.Folder.state c.args.rules.now c.args.place None (as_file c.in-Some.found) c.deref.result.now
    (record { makes = c.in_ok-read.ensures.trace; file = λ honest. rw (c.in-Some.is, c.bytes_to_read.ensures) at (c.in_ok-read.ensures.file honest) })
    c.deref.ensures.value (sym c.in-None-reason.is ∙ c.reason.ensures)

pub returns-clause-ok : goal.returns-clause-ok
returns-clause-ok g c = judged g.F.Folder.state c.args.rules.now c.args.place (Some c.in-Some-reason.area) (as_file c.in-Some.found) c.deref.result.now
    (record { makes = c.in_ok-read.ensures.trace; file = λ honest. rw (c.in-Some.is, c.bytes_to_read.ensures) at (c.in_ok-read.ensures.file honest) })
    c.deref.ensures.value (sym c.in-Some-reason.is ∙ c.reason.ensures)
