use Rattle.rly_link_folder.proofs.LawLemmas.{lists}
use Rattle.rly_link_folder.proofs.laws.law_lists.Goals as goal

pub returns : goal.returns
returns g c payloads read greatest area outcome calls readers holds = lists payloads read greatest area outcome g.F.Folder.state (g.met.F.Folder.consistent) calls readers holds
