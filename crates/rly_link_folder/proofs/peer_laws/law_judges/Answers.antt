use Rattle.rly_link_folder.proofs.Judging.{judges_law}
use Rattle.rly_link_folder.proofs.peer_laws.law_judges.Goals as goal

pub returns : goal.returns
returns c = judges_law
