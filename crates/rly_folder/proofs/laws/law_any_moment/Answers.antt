use Rattle.rly_folder.proofs.LawLemmas.{any_moment}
use Rattle.rly_folder.proofs.laws.law_any_moment.Goals as goal

pub returns : goal.returns
returns g c events leads settled = any_moment _ _ events leads settled
