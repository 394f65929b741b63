use Rattle.rly_link_folder.proofs.InboxLaws.{releases}
use Rattle.rly_link_folder.proofs.inbox_laws.law_releases.Goals as goal

pub returns : goal.returns
returns g c ledger puts before custody last numbers whole calls writers le bound keeps =
    releases ledger puts before custody last numbers whole g.F.Folder.state (g.met.F.Folder.consistent) calls writers le bound keeps
