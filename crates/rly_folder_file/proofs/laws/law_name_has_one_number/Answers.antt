use Rattle.rly_folder_file.proofs.FileNames.{one_number}
use Rattle.rly_folder_file.proofs.laws.law_name_has_one_number.Goals as goal

pub returns : goal.returns
returns c = one_number
