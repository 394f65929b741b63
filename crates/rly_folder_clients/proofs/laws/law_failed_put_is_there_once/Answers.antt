use Rattle.rly_folder_clients.proofs.LawLemmas.{stop_once}
use Rattle.rly_folder_clients.proofs.laws.law_failed_put_is_there_once.Goals as goal

pub returns : goal.returns
returns g c given bytes now stops kept holds = stop_once given g.F.Folder.state (g.met.F.Folder.consistent) bytes now stops kept holds
