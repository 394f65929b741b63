use Rattle.rly_link_folder.proofs.PeerGives.{gives_law}
use Rattle.rly_link_folder.proofs.peer_laws.law_gives.Goals as goal

pub returns : goal.returns
returns g c = gives_law g.F.Folder.state
