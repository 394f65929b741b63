use Rattle.rly_folder_file.proofs.FileNames.{name_is_read}
use Rattle.rly_folder_file.proofs.laws.law_name_is_read.Goals as goal

pub returns : goal.returns
returns c = name_is_read
