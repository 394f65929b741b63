-- The calls that put a file into a folder.
use Rattle.std.specs.Prelude.{◌≡◌, ◌⊎◌, ◌≤◌, ◌<◌, ◌+◌, ◌-◌, ◌^◌, ℕ, zero, suc, Bool, true, false, List, [], ◌∷◌, get_or, length, max}
use Rattle.rly_folder.specs.FolderCalls.{Did, Faulted, Link, ListNames, Makes, Outcome, Refrained, Sync, WriteHidden, outcome_if}
use Rattle.rly_folder.specs.FolderModel.{File, FolderState, IsListing}
use Rattle.rly_folder.specs.Names.{name_of}
use Rattle.rly_folder.specs.declared.name.Area.TheVariants.{New}
use Rattle.rly_folder_clients.specs.Runs.{Runs, Step}
use Rattle.rly_folder_clients.specs.declared.putting.PutFault.{PutFault}
use Rattle.rly_folder_clients.specs.declared.putting.PutFault.TheVariants as fault

-- so many links from a number on, each declined because its name was taken
abbrev pub taken : ℕ → ℕ → List Step
taken first zero = []
taken first (suc more) = (Link (name_of New first), Refrained) ∷ taken (first + 1) more

-- a file is written, and finds so many names taken
abbrev pub tries : File → ℕ → ℕ → List Step
tries file first more = (WriteHidden file, Did) ∷ taken first more

-- the next number is free: the file gets it, or that link failed
pub record Names {D : Type 0} (state : D → FolderState) (file : File) (first more : ℕ) (outcome : Outcome) (old new : D)
    : Type 0 where
  pub tried : D
  pub refused : Runs state (tries file first more) true old tried
  pub links : Makes state (Link (name_of New (first + more))) outcome tried new

-- the new files were listed
pub record Lists {D : Type 0} (state : D → FolderState) (numbers : List ℕ) (old new : D) : Type 0 where
  pub makes : Makes state (ListNames New) Did old new
  pub listing : (state old).honest → IsListing New (state new).seen.files numbers

-- the number after the greatest of some numbers in order; the first is 1
abbrev pub number_after : List ℕ → ℕ
number_after numbers = get_or numbers (length numbers - 1) 0 + 1

-- the first number that a put tries: the clock's, or the one after the greatest if that is greater
abbrev pub first_number : ℕ → List ℕ → ℕ
first_number now numbers = max (number_after numbers) now

-- a file got the first free number from there on, and then a sync was made, or failed
pub record Puts {D : Type 0} (state : D → FolderState) (file : File) (now number : ℕ) (durable : Bool) (old new : D)
    : Type 0 where
  pub numbers : List ℕ
  pub more : ℕ
  pub number_is : number ≡ first_number now numbers + more
  pub listed : D
  pub linked : D
  pub lists : Lists state numbers old listed
  pub names : Names state file (first_number now numbers) more Did listed linked
  pub syncs : Makes state Sync (outcome_if durable) linked new

-- fewer new files than this were listed
abbrev pub HadRoom : {D : Type 0} → (D → FolderState) → (most : ℕ) → D → Type 0
HadRoom {D} state most old = (numbers : List ℕ) × (listed : D) × Lists state numbers old listed × (length numbers < most)

-- a put of which a call failed
pub data StopsPut {D : Type 0} (state : D → FolderState) (file : File) (now : ℕ) (old new : D) : Type 0 where
  AtList : Makes state (ListNames New) Faulted old new → StopsPut state file now old new
  AtWrite : (numbers : List ℕ) (listed : D) → Lists state numbers old listed
      → Makes state (WriteHidden file) Faulted listed new → StopsPut state file now old new
  AtLink : (numbers : List ℕ) (more : ℕ) (listed : D) → Lists state numbers old listed
      → Names state file (first_number now numbers) more Faulted listed new → StopsPut state file now old new
  AtSync : (number : ℕ) → Puts state file now number false old new → StopsPut state file now old new

-- the calls of a put that didn't succeed
abbrev pub FailsToPut : {D : Type 0} → (D → FolderState) → File → ℕ → ℕ → PutFault → D → D → Type 0
FailsToPut state file most now fault.Full old new =
    (numbers : List ℕ) × Lists state numbers old new × (most ≤ length numbers)
FailsToPut {D} state file most now fault.Taken old new =
    (numbers : List ℕ) × (more : ℕ) × (listed : D) × Lists state numbers old listed
    × Runs state (tries file (first_number now numbers) more) true listed new
FailsToPut state file most now fault.NoNumber old new =
    (numbers : List ℕ) × Lists state numbers old new × (2 ^ 64 ≤ number_after numbers)
FailsToPut state file most now fault.Folder old new = StopsPut state file now old new

-- a file that was to be written and linked wasn't
abbrev pub FailsToName : {D : Type 0} → (D → FolderState) → File → ℕ → PutFault → D → D → Type 0
FailsToName state file first fault.Full old new = ⊥
FailsToName state file first fault.Taken old new = (more : ℕ) × Runs state (tries file first more) true old new
FailsToName state file first fault.NoNumber old new = ⊥
FailsToName state file first fault.Folder old new = Makes state (WriteHidden file) Faulted old new
    ⊎ ((more : ℕ) × Names state file first more Faulted old new)

-- a file that was written was linked, or that link failed
pub record Links {D : Type 0} (state : D → FolderState) (first more : ℕ) (outcome : Outcome) (old new : D)
    : Type 0 where
  pub tried : D
  pub refused : Runs state (taken first more) true old tried
  pub links : Makes state (Link (name_of New (first + more))) outcome tried new

-- it wasn't linked
abbrev pub FailsToLink : {D : Type 0} → (D → FolderState) → ℕ → PutFault → D → D → Type 0
FailsToLink state first fault.Full old new = ⊥
FailsToLink state first fault.Taken old new = (more : ℕ) × Runs state (taken first more) true old new
FailsToLink state first fault.NoNumber old new = ⊥
FailsToLink state first fault.Folder old new = (more : ℕ) × Links state first more Faulted old new
