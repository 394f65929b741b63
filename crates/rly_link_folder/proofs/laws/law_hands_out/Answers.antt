use Rattle.rly_link_folder.proofs.LawLemmas.{hands_out}
use Rattle.rly_link_folder.proofs.laws.law_hands_out.Goals as goal

pub returns : goal.returns
returns g c payloads read greatest whole calls readers holds = hands_out payloads read greatest whole g.F.Folder.state (g.met.F.Folder.consistent) calls readers holds
