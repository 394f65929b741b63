use Rattle.std.proofs.Common.{inl, refl}
use Rattle.rly_folder.specs.FolderCalls.{Did, Rename, Sync}
use Rattle.rly_link_folder.proofs.Made.{fault, last, more, on_err}
use Rattle.rly_link_folder.proofs.inbox_calls.renumber.Goals as goal

pub returns-in_err-rename-clause-err : goal.returns-in_err-rename-clause-err
returns-in_err-rename-clause-err g c = on_err _ (inl (fault g.F.Folder.state (Rename _ _) Did _ c.in_err-rename.ensures.trace))

pub returns-in_err-sync-clause-err : goal.returns-in_err-sync-clause-err
returns-in_err-sync-clause-err g c = on_err _ (inl (more g.F.Folder.state (Rename _ _) Did refl
    (rw c.if-branch.true at c.in_ok-rename.ensures.trace)
    (fault g.F.Folder.state Sync Did _ c.in_err-sync.ensures.trace)))

pub returns-in_ok-sync-clause-ok : goal.returns-in_ok-sync-clause-ok
returns-in_ok-sync-clause-ok g c = (
  refl,
  more g.F.Folder.state (Rename _ _) Did refl
      (rw c.if-branch.true at c.in_ok-rename.ensures.trace)
      (last g.F.Folder.state Sync Did refl c.in_ok-sync.ensures.trace),
)
