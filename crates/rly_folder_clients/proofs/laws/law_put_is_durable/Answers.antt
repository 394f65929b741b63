use Rattle.rly_folder_clients.proofs.LawLemmas.{put_durable}
use Rattle.rly_folder_clients.proofs.laws.law_put_is_durable.Goals as goal

pub returns : goal.returns
returns g c bytes now number puts kept honest = put_durable g.F.Folder.state (g.met.F.Folder.consistent) bytes now number puts kept honest
