use Rattle.rly_folder_clients.proofs.LawLemmas.{put_once}
use Rattle.rly_folder_clients.proofs.laws.law_put_is_there_once.Goals as goal

pub returns : goal.returns
returns g c given bytes now number durable puts kept holds = put_once given g.F.Folder.state (g.met.F.Folder.consistent) bytes now number durable puts kept holds
