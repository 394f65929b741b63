use Rattle.std.proofs.Common.{inl, is_ok}
use Rattle.rly_folder.specs.FolderCalls.{Sync}
use Rattle.rly_folder_clients.proofs.Lists.{ends}
use Rattle.rly_folder_clients.proofs.getting.make.Goals as goal

pub returns : goal.returns
returns g c = (
  _,
  inl (_, c.in_ok-write.ensures.trace, inl (_, c.in_ok-link.ensures.trace, ends g.F.Folder.state Sync (is_ok c.sync.result) c.sync.ensures.trace)),
)
