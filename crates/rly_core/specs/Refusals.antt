-- The refusals: their numbers, their texts, and the line that each prints.
use Rattle.std.specs.Prelude.{ℕ, List, [], ◌∷◌, ◌++◌, codes}
use Rattle.std.specs.Fmt.{decimal}
use Rattle.rly_core.specs.declared.refusal.Refusal.{Refusal}
use Rattle.rly_core.specs.declared.refusal.Refusal.TheVariants.{NoSuchPeer, NoSuchHop, BadMoment, Gap}
use Rattle.rly_core.specs.declared.refusal.Refusal.TheVariants.{TooLong, Full, WindowFull, Empty}
use Rattle.rly_core.specs.declared.refusal.Refusal.TheVariants.{NeverSent, NotInFlight, Broken, Unsure}
use Rattle.rly_core.specs.declared.refusal.Refusal.TheVariants.{DeviceRead, OutOfMemory, Spent, Line}
use Rattle.rly_core.specs.declared.refusal.Refusal.TheVariants.{NotADevice, BadGeometry, Damaged, Device}
use Rattle.rly_core.specs.declared.refusal.Refusal.TheVariants.{Closed, Lost, Short, Long, Magic, Version}
use Rattle.rly_core.specs.declared.refusal.Refusal.TheVariants.{Kind, Station, Syntax, Unsorted}
use Rattle.rly_core.specs.declared.refusal.Refusal.TheVariants.{Overlap, Range, Unknown}

-- each refusal's number
abbrev pub number_of : Refusal → ℕ
number_of NoSuchPeer = 1
number_of NoSuchHop = 2
number_of BadMoment = 3
number_of (Gap _) = 4
number_of TooLong = 5
number_of Full = 6
number_of WindowFull = 7
number_of Empty = 8
number_of NeverSent = 9
number_of NotInFlight = 10
number_of Broken = 11
number_of Unsure = 12
number_of DeviceRead = 13
number_of OutOfMemory = 14
number_of Spent = 15
number_of Line = 16
number_of NotADevice = 20
number_of BadGeometry = 21
number_of (Damaged _) = 22
number_of Device = 23
number_of Closed = 30
number_of Lost = 31
number_of Short = 40
number_of Long = 41
number_of Magic = 42
number_of Version = 43
number_of Kind = 44
number_of Station = 45
number_of Syntax = 50
number_of Unsorted = 51
number_of Overlap = 52
number_of Range = 53
number_of Unknown = 54

-- each refusal's text
abbrev pub text_of : Refusal → List ℕ
text_of NoSuchPeer = codes "nopeer"
text_of NoSuchHop = codes "nohop"
text_of BadMoment = codes "badmoment"
text_of (Gap _) = codes "gap"
text_of TooLong = codes "toolong"
text_of Full = codes "full"
text_of WindowFull = codes "windowfull"
text_of Empty = codes "empty"
text_of NeverSent = codes "neversent"
text_of NotInFlight = codes "notinflight"
text_of Broken = codes "broken"
text_of Unsure = codes "unsure"
text_of DeviceRead = codes "deviceread"
text_of OutOfMemory = codes "memory"
text_of Spent = codes "spent"
text_of Line = codes "line"
text_of NotADevice = codes "notadevice"
text_of BadGeometry = codes "badgeometry"
text_of (Damaged _) = codes "damaged"
text_of Device = codes "device"
text_of Closed = codes "closed"
text_of Lost = codes "lost"
text_of Short = codes "short"
text_of Long = codes "long"
text_of Magic = codes "magic"
text_of Version = codes "version"
text_of Kind = codes "kind"
text_of Station = codes "station"
text_of Syntax = codes "plan"
text_of Unsorted = codes "plan"
text_of Overlap = codes "plan"
text_of Range = codes "plan"
text_of Unknown = codes "plan"

-- the line's suffix after the text: a space and the value, if the refusal carries one
abbrev pub value_of : Refusal → List ℕ
value_of NoSuchPeer = []
value_of NoSuchHop = []
value_of BadMoment = []
value_of (Gap value) = 32 ∷ decimal value
value_of TooLong = []
value_of Full = []
value_of WindowFull = []
value_of Empty = []
value_of NeverSent = []
value_of NotInFlight = []
value_of Broken = []
value_of Unsure = []
value_of DeviceRead = []
value_of OutOfMemory = []
value_of Spent = []
value_of Line = []
value_of NotADevice = []
value_of BadGeometry = []
value_of (Damaged value) = 32 ∷ decimal value
value_of Device = []
value_of Closed = []
value_of Lost = []
value_of Short = []
value_of Long = []
value_of Magic = []
value_of Version = []
value_of Kind = []
value_of Station = []
value_of Syntax = []
value_of Unsorted = []
value_of Overlap = []
value_of Range = []
value_of Unknown = []

-- the line that a refusal prints, without its newline
abbrev pub refusal_line : Refusal → List ℕ
refusal_line refusal = codes "refused " ++ decimal (number_of refusal) ++ 32 ∷ text_of refusal ++ value_of refusal
