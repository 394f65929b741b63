-- The names of a folder's files.
use Rattle.std.specs.Prelude.{◌==◌, ◌&&◌, ℕ, Bool}
use Rattle.rly_folder.specs.declared.name.Area.{Area}
use Rattle.rly_folder.specs.declared.name.Area.TheVariants.{Kept, New, NoRoute, Out, Printed, Sent, TooLong, TooShort}
use Rattle.rly_folder.specs.declared.name.Name.{Name}

abbrev pub area_number : Area → ℕ
area_number New = 0
area_number Sent = 1
area_number NoRoute = 2
area_number TooLong = 3
area_number TooShort = 4
area_number Out = 5
area_number Kept = 6
area_number Printed = 7

abbrev pub is_same_name : Name → Name → Bool
is_same_name one other = (area_number one.area == area_number other.area) && (one.number == other.number)

abbrev pub name_of : Area → ℕ → Name
name_of area number = record { area = area; number = number }
