use Rattle.rly_folder.proofs.LawLemmas.{settles}
use Rattle.rly_folder.proofs.laws.law_settles.Goals as goal

pub returns : goal.returns
returns g c made honest = settles g.F.Folder.state (g.met.F.Folder.consistent) made honest
