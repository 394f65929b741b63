use Rattle.rly_link_folder.proofs.InboxLaws.{numbers}
use Rattle.rly_link_folder.proofs.inbox_laws.law_numbers.Goals as goal

pub returns : goal.returns
returns g c ledger puts custody last i place whole calls writers once at keeps =
    numbers ledger puts custody last i place whole g.F.Folder.state (g.met.F.Folder.consistent) calls writers once at keeps
