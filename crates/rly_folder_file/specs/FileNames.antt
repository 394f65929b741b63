-- The names of a folder's files.
use Rattle.std.specs.Prelude.{◌≡◌, ◌<◌, ◌⊎◌, ◌==◌, ◌&&◌, ◌++◌, ◌-◌, ◌^◌, ℕ, Bool, List, [], Option, None, Some, codes, if◌then◌else◌, length, nat_lt, replicate}
use Rattle.std.specs.Char.{is_ascii_digit}
use Rattle.std.specs.Fmt.{decimal}
use Rattle.std.specs.List.{list_all}
use Rattle.std.specs.Str.Parse.{digits_value}
use Rattle.rly_folder.specs.declared.name.Area.{Area}
use Rattle.rly_folder.specs.declared.name.Area.TheVariants.{Kept, New, NoRoute, Out, Printed, Sent, TooLong, TooShort}
use Rattle.rly_folder_file.specs.declared.place.Place.{Place}
use Rattle.rly_folder_file.specs.declared.place.Place.TheVariants.{File, Folder, Hidden, Lock, Trial, TrialLink}
use Rattle.rly_folder_file.specs.declared.place.Place.TheVariants as PlaceVariants
use Rattle.rly_folder_file.specs.declared.place.SubFolder.{SubFolder}
use Rattle.rly_folder_file.specs.declared.place.SubFolder.TheVariants as Sub

abbrev pub sub_folder_name : SubFolder → List ℕ
sub_folder_name Sub.New = codes "new"
sub_folder_name Sub.Sent = codes "sent"
sub_folder_name Sub.Refused = codes "refused"
sub_folder_name Sub.Out = codes "out"

-- the sub-folder of an area's files
abbrev pub sub_folder_of : Area → SubFolder
sub_folder_of New = Sub.New
sub_folder_of Sent = Sub.Sent
sub_folder_of NoRoute = Sub.Refused
sub_folder_of TooLong = Sub.Refused
sub_folder_of TooShort = Sub.Refused
sub_folder_of Out = Sub.Out
sub_folder_of Kept = Sub.Out
sub_folder_of Printed = Sub.Out

-- the text before the digits of an area's names
abbrev pub prefix_of : Area → List ℕ
prefix_of New = []
prefix_of Sent = []
prefix_of NoRoute = []
prefix_of TooLong = []
prefix_of TooShort = []
prefix_of Out = []
prefix_of Kept = codes ".greatest-"
prefix_of Printed = codes ".printed-"

-- and the text at the end
abbrev pub suffix_of : Area → List ℕ
suffix_of New = []
suffix_of Sent = []
suffix_of NoRoute = codes ".no-route"
suffix_of TooLong = codes ".too-long"
suffix_of TooShort = codes ".too-short"
suffix_of Out = []
suffix_of Kept = []
suffix_of Printed = []

-- a number in 20 digits, the first of them zeros
abbrev pub twenty_digits : ℕ → List ℕ
twenty_digits number = replicate (20 - length (decimal number)) 48 ++ decimal number

-- the text of a limit in microseconds in a name: none for a file without one
abbrev pub limit_text : ℕ → List ℕ
limit_text limit = if limit == 0 then [] else codes ".limit-" ++ twenty_digits limit

-- the name of the file of an area with this number and this limit
abbrev pub file_name : Area → ℕ → ℕ → List ℕ
file_name area number limit = prefix_of area ++ (twenty_digits number ++ (limit_text limit ++ suffix_of area))

abbrev pub are_twenty_digits : List ℕ → Bool
are_twenty_digits digits = (length digits == 20) && list_all is_ascii_digit digits

-- the value of 20 decimal digits, if it has 64 bits
abbrev pub value_in : List ℕ → Option ℕ
value_in digits =
    if are_twenty_digits digits && nat_lt (digits_value 10 digits) (2 ^ 64) then Some (digits_value 10 digits) else None

-- a text that is read as a limit in microseconds
pub record NamesLimit (limit : ℕ) (text : List ℕ) : Type 0 where
  pub digits : List ℕ
  pub text_is : text ≡ codes ".limit-" ++ digits
  pub value_is : value_in digits ≡ Some limit
  pub counts : 0 < limit
  pub fits : limit < 2 ^ 40

-- the same, or no text for no limit
abbrev pub IsLimit : ℕ → List ℕ → Type 0
IsLimit limit text = ((limit ≡ 0) × (text ≡ [])) ⊎ NamesLimit limit text

-- a name that is read as that of the file of an area with this number and this limit
pub record IsFileName (area : Area) (number limit : ℕ) (name : List ℕ) : Type 0 where
  pub digits : List ℕ
  pub text : List ℕ
  pub name_is : name ≡ prefix_of area ++ ((digits ++ text) ++ suffix_of area)
  pub value_is : value_in digits ≡ Some number
  pub counts : 0 < number
  pub limit_is : IsLimit limit text

-- the text of a place: of a file or a sub-folder, its path from the folder on
abbrev pub place_text : Place → List ℕ
place_text Folder = codes "."
place_text (PlaceVariants.Sub sub) = sub_folder_name sub
place_text (File file) = sub_folder_name (sub_folder_of file.name.area)
    ++ (codes "/" ++ file_name file.name.area file.name.number file.limit)
place_text Hidden = codes "hidden file"
place_text Trial = codes "trial of a hard link"
place_text TrialLink = codes "hard link on trial"
place_text Lock = codes "lock"
