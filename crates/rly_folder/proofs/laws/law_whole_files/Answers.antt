use Rattle.rly_folder.proofs.LawLemmas.{whole_files}
use Rattle.rly_folder.proofs.laws.law_whole_files.Goals as goal

pub returns : goal.returns
returns g c events leads settled none = whole_files _ _ events leads settled none
