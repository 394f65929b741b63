-- Sets of sub-folders.
use Rattle.std.specs.Prelude.{◌≡◌, Bool, false, true}
use Rattle.rly_folder_file.specs.declared.place.SubFolder.{SubFolder}
use Rattle.rly_folder_file.specs.declared.place.SubFolder.TheVariants.{New, Out, Refused, Sent}
use Rattle.rly_folder_file.specs.declared.sub_folders.SubFolders.{SubFolders}

abbrev pub has_sub : SubFolders → SubFolder → Bool
has_sub set New = set.in_new
has_sub set Sent = set.in_sent
has_sub set Refused = set.in_refused
has_sub set Out = set.in_out

abbrev pub HasNone : SubFolders → Type 0
HasNone set = (sub : SubFolder) → has_sub set sub ≡ false

-- the set with this one too
abbrev pub with_sub : SubFolders → SubFolder → SubFolders
with_sub set New = record set { in_new = true }
with_sub set Sent = record set { in_sent = true }
with_sub set Refused = record set { in_refused = true }
with_sub set Out = record set { in_out = true }
