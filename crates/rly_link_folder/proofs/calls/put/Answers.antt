use Rattle.std.proofs.Common.{is_ok, refl, true}
use Rattle.rly_folder.specs.FolderCalls.{Did, Link, Sync, WriteHidden}
use Rattle.rly_link_folder.proofs.Made.{ends, fault, more, not_ok, sound_link}
use Rattle.rly_link_folder.specs.OutboxCalls.{if_linked}
use Rattle.rly_link_folder.proofs.calls.put.Goals as goal

pub returns-in_err-write : goal.returns-in_err-write
returns-in_err-write g c = rw (not_ok _ c.from_residual.ensures.0) (true, fault g.F.Folder.state (WriteHidden _) Did _ c.in_err-write.ensures.trace)

pub returns-in_err-link : goal.returns-in_err-link
returns-in_err-link g c = rw (not_ok _ c.from_residual-in_err-link.ensures.0)
    (true, more g.F.Folder.state (WriteHidden _) Did refl c.in_ok-write.ensures.trace (fault g.F.Folder.state (Link _) _ _ c.in_err-link.ensures.trace))

pub returns : goal.returns
returns g c = (
  _,
  more g.F.Folder.state (WriteHidden _) Did refl c.in_ok-write.ensures.trace
      (more g.F.Folder.state (Link _) (if_linked _) (sound_link _) c.in_ok-link.ensures.trace (ends g.F.Folder.state Sync (is_ok c.sync.result) c.sync.ensures.trace)),
)
