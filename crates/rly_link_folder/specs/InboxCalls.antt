-- The calls that give files numbers, read them, and remove them, in their order.
use Rattle.std.specs.Prelude.{◌≡◌, ◌⊎◌, ◌==◌, ◌≤◌, ◌<◌, ◌+◌, ◌*◌, ◌-◌, ◌/◌, ◌%◌, ◌^◌, ⊤, ℕ, Bool, true, false, not, ◌||◌, if◌then◌else◌, nat_lt, List, [], ◌∷◌, ◌++◌}
use Rattle.std.specs.Prelude.{Option, None, Some, Contains, length, option_map}
use Rattle.std.specs.List.{list_any}
use Rattle.rly_folder.specs.FolderCalls.{Did, Faulted, ListNames, Makes, ReadFile, Refrained, Remove, Rename, Sync}
use Rattle.rly_folder.specs.FolderModel.{File, FolderState, front_of, IsListing}
use Rattle.rly_folder.specs.Names.{name_of}
use Rattle.rly_folder.specs.declared.name.Area.{Area}
use Rattle.rly_folder.specs.declared.name.Area.TheVariants.{NoRoute, Sent, TooLong, TooShort}
use Rattle.rly_folder.specs.declared.name.Name.{Name}
use Rattle.rly_link_folder.specs.OutboxCalls.{Finds, if_linked}
use Rattle.rly_link_folder.specs.Script.{MakesEach, Step}
use Rattle.rly_link_folder.specs.declared.inbox_calls.Joined.{Joined}
use Rattle.rly_link_folder.specs.declared.inbox_calls.Joined.TheVariants.{Apart, To}

-- the numbers of `sent/` go on from the station's last number, up to this one: all between are there, none is above it,
-- and if there are any this one is among them
pub record GoesOn (custody last : ℕ) (numbers : List ℕ) : Type 0 where
  pub within : custody ≤ last
  pub each : (n : ℕ) → custody < n → n ≤ last → Contains numbers n
  pub bound : (n : ℕ) → Contains numbers n → n ≤ last
  pub reached : (numbers ≡ []) ⊎ Contains numbers last

-- the least of these numbers, and the greatest
pub record AreEnds (least greatest : ℕ) (numbers : List ℕ) : Type 0 where
  pub least_in : Contains numbers least
  pub greatest_in : Contains numbers greatest
  pub within : (n : ℕ) → Contains numbers n → (least ≤ n) × (n ≤ greatest)

-- `sent/` goes on to this number; or to none, and these are the ends of its numbers
abbrev pub GoesOnTo : ℕ → Joined → List ℕ → Type 0
GoesOnTo custody (To last) numbers = GoesOn custody last numbers
GoesOnTo custody (Apart least greatest) numbers =
    ((last : ℕ) → GoesOn custody last numbers → ⊥) × AreEnds least greatest numbers

-- it goes on to no number below the station's
abbrev pub IsNotBelow : ℕ → Joined → Type 0
IsNotBelow custody (To last) = custody ≤ last
IsNotBelow custody (Apart least greatest) = ⊤

-- an opening: after a sync `sent/` is listed
pub record Joins {D : Type 0} (state : D → FolderState) (custody : ℕ) (joined : Joined) (old new : D) : Type 0 where
  pub synced : D
  pub numbers : List ℕ
  pub syncs : Makes state Sync Did old synced
  pub makes : Makes state (ListNames Sent) Did synced new
  pub listing : (state old).honest → IsListing Sent (state new).seen.files numbers
  pub goes_on : (state old).honest → GoesOnTo custody joined numbers

-- a call of an opening failed
pub data FailsToJoin {D : Type 0} (state : D → FolderState) (old new : D) : Type 0 where
  AtSync : Makes state Sync Faulted old new → FailsToJoin state old new
  AtNames : (synced : D) → Makes state Sync Did old synced → Makes state (ListNames Sent) Faulted synced new
      → FailsToJoin state old new

-- the first bytes of a file were read, or it wasn't there
pub record Reads {D : Type 0} (state : D → FolderState) (name : Name) (most : ℕ) (found : Option File) (old new : D)
    : Type 0 where
  pub makes : Makes state (ReadFile name) Did old new
  pub file : (state old).honest → found ≡ option_map (front_of most) ((state new).seen.files name)

-- a file gets another name, durably
abbrev pub renaming : Name → Name → List Step
renaming from to = (Rename from to, Did) ∷ (Sync, Did) ∷ []

-- a payload that names a destination and nothing else
abbrev pub destination_bytes : ℕ → List ℕ
destination_bytes destination = destination / 256 ∷ destination % 256 ∷ []

-- the payload of a file's datagram: the file, behind the two bytes of a destination if all files have one
abbrev pub payload_of : Option ℕ → List ℕ → List ℕ
payload_of None file = file
payload_of (Some destination) file = destination_bytes destination ++ file

-- the destination that the first two bytes of a payload name
abbrev pub destination_in : List ℕ → Option ℕ
destination_in [] = None
destination_in (high ∷ []) = None
destination_in (high ∷ low ∷ rest) = Some (high * 256 + low)

-- the area of `refused/` of a payload with this destination that the station has no hop for
abbrev pub astray : Option ℕ → Area
astray None = TooShort
astray (Some destination) = NoRoute

-- the area of `refused/` of a payload with this destination, whether the station has a hop for it, and whether it is too
-- long: none if the station takes it
abbrev pub reason_for : (led too_long : Bool) → Option ℕ → Option Area
reason_for led too_long destination =
    if not led then Some (astray destination) else if too_long then Some TooLong else None

abbrev pub is_routed : List ℕ → ℕ → Bool
is_routed routes destination = list_any (λ route. route == destination) routes

-- a station that takes what these routes lead, and the rest or not, has a hop for a payload with this destination
abbrev pub is_led : List ℕ → (rest : Bool) → Option ℕ → Bool
is_led routes rest None = rest
is_led routes rest (Some destination) = is_routed routes destination || rest

-- the reason for which such a station, with this longest payload, refuses a payload for good
abbrev pub reason_of : List ℕ → (rest : Bool) → ℕ → List ℕ → Option Area
reason_of routes rest longest payload =
    let destination = destination_in payload in
    reason_for (is_led routes rest destination) (nat_lt longest (length payload)) destination

-- a file gets the next number of an area, durably; or it wasn't there
abbrev pub Moves : {D : Type 0} → (D → FolderState) → Name → Area → ℕ → Option ℕ → D → D → Type 0
Moves state from area greatest (Some number) old new =
    (number ≡ greatest + 1) × MakesEach state (renaming from (name_of area number)) true old new
Moves state from area greatest None old new = Makes state (Rename from (name_of area (greatest + 1))) Refrained old new

-- a call of it failed, or no number of 64 bits is next
abbrev pub FailsToMove : {D : Type 0} → (D → FolderState) → Name → Area → ℕ → D → D → Type 0
FailsToMove state from area greatest old new =
    MakesEach state (renaming from (name_of area (greatest + 1))) false old new
    ⊎ ((2 ^ 64 - 1 ≤ greatest) × (new ≡ old))

-- it goes to `refused/`, above all files of the same reason; or it wasn't there by then
pub record Refuses {D : Type 0} (state : D → FolderState) (from : Name) (area : Area) (number : Option ℕ) (old new : D)
    : Type 0 where
  pub listed : D
  pub greatest : ℕ
  pub finds : Finds state area greatest old listed
  pub moves : Moves state from area greatest number listed new

-- a call of that failed
pub data FailsToRefuse {D : Type 0} (state : D → FolderState) (from : Name) (area : Area) (old new : D) : Type 0 where
  AtList : Makes state (ListNames area) Faulted old new → FailsToRefuse state from area old new
  AtMove : (listed : D) (greatest : ℕ) → Finds state area greatest old listed
      → FailsToMove state from area greatest listed new → FailsToRefuse state from area old new

-- the file of a number is removed, if it is there; or that isn't done
abbrev pub IsRemoval : Bool → ℕ → List Step → List Step → Type 0
IsRemoval true number steps rest = (there : Bool) × (steps ≡ (Remove (name_of Sent number), if_linked there) ∷ rest)
IsRemoval false number steps rest = steps ≡ rest

-- of these numbers the files of those below the station's are removed, in this order
abbrev pub AreRemovals : ℕ → List ℕ → List Step → Type 0
AreRemovals custody [] steps = steps ≡ []
AreRemovals custody (number ∷ numbers) steps = (rest : List Step) × IsRemoval (nat_lt number custody) number steps rest
    × AreRemovals custody numbers rest

pub record Removes {D : Type 0} (state : D → FolderState) (custody : ℕ) (numbers : List ℕ) (whole : Bool) (old new : D)
    : Type 0 where
  pub steps : List Step
  pub removals : AreRemovals custody numbers steps
  pub makes : MakesEach state steps whole old new

-- then that of the station's number, after a sync: so if a crash leaves any of them, it leaves that one
pub record RemovesTo {D : Type 0} (state : D → FolderState) (custody : ℕ) (numbers : List ℕ) (whole : Bool) (old new : D)
    : Type 0 where
  pub steps : List Step
  pub removals : AreRemovals custody numbers steps
  pub there : Bool
  pub makes : MakesEach state (steps ++ (Sync, Did) ∷ (Remove (name_of Sent custody), if_linked there) ∷ []) whole old new

-- `sent/` was listed, and its files up to the station's number are removed
pub record Releases {D : Type 0} (state : D → FolderState) (custody : ℕ) (whole : Bool) (old new : D) : Type 0 where
  pub listed : D
  pub numbers : List ℕ
  pub makes : Makes state (ListNames Sent) Did old listed
  pub listing : (state old).honest → IsListing Sent (state listed).seen.files numbers
  pub removes : RemovesTo state custody numbers whole listed new

abbrev pub FailsToRelease : {D : Type 0} → (D → FolderState) → ℕ → D → D → Type 0
FailsToRelease state custody old new = Makes state (ListNames Sent) Faulted old new ⊎ Releases state custody false old new
