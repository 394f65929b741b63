-- The calls that hand the files of `out/` on, one after another.
use Rattle.std.specs.Prelude.{◌≡◌, ◌⊎◌, ◌≤◌, ◌<◌, ◌+◌, ◌-◌, ℕ, Bool, true, false, if◌then◌else◌, List, [], ◌∷◌, ◌++◌, get_or, length, take}
use Rattle.std.specs.Prelude.{Option, None, Some, Result, is_some, nat_lt}
use Rattle.std.specs.Io.KnownBytes.{Appends}
use Rattle.rly_daemon_reply.specs.Beginnings.{AppendsBeginning}
use Rattle.rly_folder.specs.FolderCalls.{Did, Faulted, Link, ListNames, Makes, Outcome, ReadFile, Refrained, Remove, Rename, Sync, WriteHidden, outcome_of}
use Rattle.rly_folder.specs.FolderModel.{File, FolderState, IsListing, file_with}
use Rattle.rly_folder.specs.Names.{name_of}
use Rattle.rly_folder.specs.declared.name.Area.TheVariants.{Out, Printed}
use Rattle.rly_folder_clients.specs.Forms.{bytes_of_each, if_any}
use Rattle.rly_folder_clients.specs.Runs.{Runs, Step}
use Rattle.rly_folder_clients.specs.declared.form.Form.{Form}
use Rattle.rly_folder_clients.specs.declared.getting.GetFault.{GetFault}
use Rattle.rly_folder_clients.specs.declared.getting.GetFault.TheVariants as fault

-- how a call returned: done, or declined
abbrev pub if_done : Bool → Outcome
if_done done = if done then Did else Refrained

-- the reader's hidden name is moved from one number to another, durably
abbrev pub moving : ℕ → ℕ → List Step
moving from to = (Rename (name_of Printed from) (name_of Printed to), Did) ∷ (Sync, Did) ∷ []

-- one is made; or it was there
abbrev pub making_one : ℕ → Bool → List Step
making_one to linked = (WriteHidden (file_with [] 0), Did) ∷ (Link (name_of Printed to), if_done linked) ∷ (Sync, Did) ∷ []

-- there is none to move: one is made
abbrev pub making : ℕ → ℕ → Bool → List Step
making from to linked = (Rename (name_of Printed from) (name_of Printed to), Refrained) ∷ making_one to linked

abbrev pub IsKeeping : ℕ → ℕ → List Step → Type 0
IsKeeping from to steps = (steps ≡ moving from to) ⊎ ((linked : Bool) × (steps ≡ making from to linked))

-- the number of the last file that was printed is kept, durably
pub record Keeps {D : Type 0} (state : D → FolderState) (from to : ℕ) (whole : Bool) (old new : D) : Type 0 where
  pub steps : List Step
  pub keeping : IsKeeping from to steps
  pub runs : Runs state steps whole old new

-- and then the file is removed
pub record Finishes {D : Type 0} (state : D → FolderState) (last number : ℕ) (whole : Bool) (old new : D) : Type 0 where
  pub steps : List Step
  pub keeping : IsKeeping last number steps
  pub there : Bool
  pub runs : Runs state (steps ++ (Remove (name_of Out number), if_done there) ∷ []) whole old new

-- the whole file was read, or it wasn't there
pub record Reads {D : Type 0} (state : D → FolderState) (number : ℕ) (found : Option File) (old new : D)
    : Type 0 where
  pub makes : Makes state (ReadFile (name_of Out number)) Did old new
  pub file : (state old).honest → found ≡ (state new).seen.files (name_of Out number)

-- a file with more bytes than any payload has
abbrev pub is_too_long : Option File → Bool
is_too_long None = false
is_too_long (Some file) = nat_lt 65536 (length file.bytes)

-- it wasn't read, or isn't a station's
abbrev pub FailsToRead : {D : Type 0} → (D → FolderState) → ℕ → GetFault → D → D → Type 0
FailsToRead state number fault.Folder old new = Makes state (ReadFile (name_of Out number)) Faulted old new
FailsToRead state number fault.TooLong old new = Makes state (ReadFile (name_of Out number)) Did old new
    × ((state old).honest → is_too_long ((state new).seen.files (name_of Out number)) ≡ true)
FailsToRead state number fault.Output old new = ⊥

-- the file of a number is removed, if it is there
abbrev pub Removes : {D E : Type 0} → (D → FolderState) → ℕ → Result Bool E → D → D → Type 0
Removes state number result old new = Makes state (Remove (name_of Out number)) (outcome_of result) old new

-- a file was read, and printed between these calls and the next ones; then its number was kept and the file removed
pub record Prints {D : Type 0} (state : D → FolderState) (last number : ℕ) (payload : File) (whole : Bool) (old new : D)
    : Type 0 where
  pub read : D
  pub reads : Reads state number (Some payload) old read
  pub finishes : Finishes state last number whole read new

-- a file was handled: printed if its number is above the last one; and if a crash left it, or it is gone by now, not
pub data Handles {D : Type 0} (state : D → FolderState) (last number : ℕ) (printed : Option File) (old new : D)
    : Type 0 where
  IsNext : last < number → (payload : File) → printed ≡ Some payload → Prints state last number payload true old new
      → Handles state last number printed old new
  IsGone : last < number → printed ≡ None → Reads state number None old new → Handles state last number printed old new
  IsOld : number ≤ last → printed ≡ None → (there : Bool)
      → Makes state (Remove (name_of Out number)) (if_done there) old new → Handles state last number printed old new

-- it wasn't handled to its end
pub data StopsAt {D : Type 0} (state : D → FolderState) (last number : ℕ) (why : GetFault) (printed : Option File)
    (old new : D) : Type 0 where
  AtRead : last < number → printed ≡ None → FailsToRead state number why old new
      → StopsAt state last number why printed old new
  -- some of it was printed, or all
  AtOutput : last < number → why ≡ fault.Output → (payload : File) → printed ≡ Some payload
      → Reads state number (Some payload) old new → StopsAt state last number why printed old new
  -- it was printed, and will be again unless its number was kept
  AtFinish : last < number → why ≡ fault.Folder → (payload : File) → printed ≡ Some payload
      → Prints state last number payload false old new → StopsAt state last number why printed old new
  AtOld : number ≤ last → why ≡ fault.Folder → printed ≡ None
      → Makes state (Remove (name_of Out number)) Faulted old new → StopsAt state last number why printed old new

-- the last number after a file
abbrev pub last_after : ℕ → ℕ → Option File → ℕ
last_after last number printed = if is_some printed then number else last

-- files were handled in this order
abbrev pub HandlesEach : {D : Type 0} → (D → FolderState) → ℕ → List ℕ → List File → ℕ → D → D → Type 0
HandlesEach state first [] printed last old new = (printed ≡ []) × (last ≡ first) × (new ≡ old)
HandlesEach {D} state first (number ∷ numbers) printed last old new =
    (one : Option File) × (rest : List File) × (next : D) × (printed ≡ if_any one ++ rest)
    × Handles state first number one old next
    × HandlesEach state (last_after first number one) numbers rest last next new

-- these bytes were written and flushed, or a beginning of them if the output failed
abbrev pub Wrote : GetFault → Option (List ℕ) → Option (List ℕ) → List ℕ → Type 0
Wrote fault.Folder old new bytes = Appends old new bytes
Wrote fault.TooLong old new bytes = Appends old new bytes
Wrote fault.Output old new bytes = AppendsBeginning old new bytes

-- a file was handled, and its bytes written if it was printed
abbrev pub HandlesOne : {D : Type 0} → (D → FolderState) → Form → ℕ → ℕ → Bool → Option (List ℕ) → Option (List ℕ)
    → D → D → Type 0
HandlesOne state form last number is_printed written writes old new = (printed : Option File)
    × (is_printed ≡ is_some printed) × Handles state last number printed old new
    × Appends written writes (bytes_of_each form (if_any printed))

-- it wasn't, to its end
abbrev pub StopsOne : {D : Type 0} → (D → FolderState) → Form → ℕ → ℕ → GetFault → Option (List ℕ) → Option (List ℕ)
    → D → D → Type 0
StopsOne state form last number why written writes old new = (printed : Option File)
    × StopsAt state last number why printed old new × Wrote why written writes (bytes_of_each form (if_any printed))

-- the first files of a list were handled: all of them, or up to the one with which enough were printed
pub record HandlesSome {D : Type 0} (state : D → FolderState) (form : Form) (first : ℕ) (numbers : List ℕ) (most count : ℕ)
    (written writes : Option (List ℕ)) (old new : D) : Type 0 where
  pub done : ℕ
  pub printed : List File
  pub last : ℕ
  pub each : HandlesEach state first (take done numbers) printed last old new
  pub enough : (length numbers ≤ done) ⊎ (count ≡ most)
  pub count_is : count ≡ length printed
  pub within : count ≤ most
  pub wrote : Appends written writes (bytes_of_each form printed)

-- or up to one that wasn't handled to its end
pub record StopsAmong {D : Type 0} (state : D → FolderState) (form : Form) (first : ℕ) (numbers : List ℕ) (why : GetFault)
    (written writes : Option (List ℕ)) (old new : D) : Type 0 where
  pub done : ℕ
  pub printed : List File
  pub last : ℕ
  pub stopped : D
  pub each : HandlesEach state first (take done numbers) printed last old stopped
  pub among : done < length numbers
  pub one : Option File
  pub stops : StopsAt state last (get_or numbers done 0) why one stopped new
  -- what was written before this one
  pub between : Option (List ℕ)
  pub before : Appends written between (bytes_of_each form printed)
  pub wrote : Wrote why between writes (bytes_of_each form (if_any one))

-- the number of the last file that was printed, as a sync made it durable: 0 if there is none
pub record Opens {D : Type 0} (state : D → FolderState) (last : ℕ) (old new : D) : Type 0 where
  pub synced : D
  pub kept : List ℕ
  pub syncs : Makes state Sync Did old synced
  pub lists : Makes state (ListNames Printed) Did synced new
  pub listing : (state old).honest → IsListing Printed (state new).seen.files kept
  pub is_last : last ≡ get_or kept (length kept - 1) 0

abbrev pub FailsToOpen : {D : Type 0} → (D → FolderState) → D → D → Type 0
FailsToOpen {D} state old new = Makes state Sync Faulted old new
    ⊎ ((synced : D) × Makes state Sync Did old synced × Makes state (ListNames Printed) Faulted synced new)

-- the files handed out were listed
pub record Begins {D : Type 0} (state : D → FolderState) (last : ℕ) (numbers : List ℕ) (old new : D) : Type 0 where
  pub opened : D
  pub opens : Opens state last old opened
  pub lists : Makes state (ListNames Out) Did opened new
  pub listing : (state old).honest → IsListing Out (state new).seen.files numbers

-- the files handed out are handled, the least number first, until there is none or enough were printed
pub record Gets {D : Type 0} (state : D → FolderState) (form : Form) (most count : ℕ) (written writes : Option (List ℕ))
    (old new : D) : Type 0 where
  pub first : ℕ
  pub numbers : List ℕ
  pub listed : D
  pub begins : Begins state first numbers old listed
  pub handles : HandlesSome state form first numbers most count written writes listed new

-- a call failed, or a file is too long
pub data StopsGet {D : Type 0} (state : D → FolderState) (form : Form) (why : GetFault)
    (written writes : Option (List ℕ)) (old new : D) : Type 0 where
  AtOpening : why ≡ fault.Folder → writes ≡ written → FailsToOpen state old new
      → StopsGet state form why written writes old new
  AtList : why ≡ fault.Folder → writes ≡ written → (first : ℕ) (opened : D) → Opens state first old opened
      → Makes state (ListNames Out) Faulted opened new → StopsGet state form why written writes old new
  AtFile : (first : ℕ) (numbers : List ℕ) (listed : D) → Begins state first numbers old listed
      → StopsAmong state form first numbers why written writes listed new
      → StopsGet state form why written writes old new
