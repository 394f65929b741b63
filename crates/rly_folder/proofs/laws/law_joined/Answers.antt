use Rattle.rly_folder.proofs.LawLemmas.{leads_joined}
use Rattle.rly_folder.proofs.laws.law_joined.Goals as goal

pub returns : goal.returns
returns g c first second one two = leads_joined _ _ _ first second one two
