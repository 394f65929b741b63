-- The calls that make a datagram a file, in their order.
use Rattle.std.specs.Prelude.{◌≡◌, ◌⊎◌, ◌≤◌, ◌<◌, ◌-◌, ℕ, Bool, true, false, if◌then◌else◌, List, [], ◌∷◌, ◌++◌, get_or, length}
use Rattle.rly_folder.specs.FolderCalls.{Did, Faulted, Link, ListNames, Makes, Outcome, Refrained, Rename, Sync, WriteHidden}
use Rattle.rly_folder.specs.FolderModel.{File, file_with, FolderState, IsListing}
use Rattle.rly_folder.specs.Names.{name_of}
use Rattle.rly_folder.specs.declared.name.Area.TheVariants.{Kept, Out}
use Rattle.rly_folder.specs.declared.name.Name.{Name}
use Rattle.rly_folder.specs.declared.name.Area.{Area}
use Rattle.rly_link_folder.specs.Script.{MakesEach, Step}

-- how a link returned: done, or declined because its name was taken
abbrev pub if_linked : Bool → Outcome
if_linked linked = if linked then Did else Refrained

-- a file gets a name, durably
abbrev pub putting : File → Name → Bool → List Step
putting file to linked = (WriteHidden file, Did) ∷ (Link to, if_linked linked) ∷ (Sync, Did) ∷ []

-- the hidden name of the greatest number is moved, durably
abbrev pub moving : ℕ → ℕ → List Step
moving from to = (Rename (name_of Kept from) (name_of Kept to), Did) ∷ (Sync, Did) ∷ []

-- there is none to move: one is made
abbrev pub making : ℕ → ℕ → Bool → List Step
making from to linked =
    (Rename (name_of Kept from) (name_of Kept to), Refrained) ∷ putting (file_with [] 0) (name_of Kept to) linked

abbrev pub IsKeeping : ℕ → ℕ → List Step → Type 0
IsKeeping from to steps = (steps ≡ moving from to) ⊎ ((linked : Bool) × (steps ≡ making from to linked))

-- the greatest number is kept, durably
pub record Keeps {D : Type 0} (state : D → FolderState) (from to : ℕ) (whole : Bool) (old new : D) : Type 0 where
  pub steps : List Step
  pub keeping : IsKeeping from to steps
  pub makes : MakesEach state steps whole old new

-- the file is durable under its number before the number is kept
pub record HandsOut {D : Type 0} (state : D → FolderState) (greatest number : ℕ) (file : File) (whole : Bool)
    (old new : D) : Type 0 where
  pub linked : Bool
  pub steps : List Step
  pub keeping : IsKeeping greatest number steps
  pub makes : MakesEach state (putting file (name_of Out number) linked ++ steps) whole old new

-- the files handed out were listed: so many may be added until there are `most`
pub record ListsRoom {D : Type 0} (state : D → FolderState) (most left : ℕ) (old new : D) : Type 0 where
  pub makes : Makes state (ListNames Out) Did old new
  pub numbers : List ℕ
  pub listing : (state old).honest → IsListing Out (state new).seen.files numbers
  pub difference : left ≡ most - length numbers

-- so many files may be added: those of the last listing that are left, or, once none is, those of a new one
abbrev pub HasRoom : {D : Type 0} → (D → FolderState) → (most spare left : ℕ) → D → D → Type 0
HasRoom state most spare left old new =
    ((1 ≤ spare) × (left ≡ spare) × (new ≡ old)) ⊎ ((spare ≡ 0) × ListsRoom state most left old new)

-- none was left of the last listing, and a new one failed
abbrev pub FailsToList : {D : Type 0} → (D → FolderState) → (spare : ℕ) → D → D → Type 0
FailsToList state spare old new = (spare ≡ 0) × Makes state (ListNames Out) Faulted old new

-- an area was listed, and this is its greatest number, 0 if it has no file
pub record Finds {D : Type 0} (state : D → FolderState) (area : Area) (greatest : ℕ) (old new : D) : Type 0 where
  pub makes : Makes state (ListNames area) Did old new
  pub numbers : List ℕ
  pub listing : (state old).honest → IsListing area (state new).seen.files numbers
  pub is_last : greatest ≡ get_or numbers (length numbers - 1) 0

-- the greater of the greatest numbers of the files handed out and of the hidden names, and what makes it the hidden one
abbrev pub IsKeptUp : {D : Type 0} → (D → FolderState) → ℕ → ℕ → ℕ → D → D → Type 0
IsKeptUp state handed kept greatest old new =
    ((handed ≤ kept) × (greatest ≡ kept) × (new ≡ old))
    ⊎ ((kept < handed) × (greatest ≡ handed) × Keeps state kept handed true old new)

-- an opening: after a sync both are listed
pub record Opens {D : Type 0} (state : D → FolderState) (greatest : ℕ) (old new : D) : Type 0 where
  pub synced : D
  pub listed : D
  pub found : D
  pub handed : ℕ
  pub kept : ℕ
  pub syncs : Makes state Sync Did old synced
  pub finds_handed : Finds state Out handed synced listed
  pub finds_kept : Finds state Kept kept listed found
  pub keeps : IsKeptUp state handed kept greatest found new

-- an opening of which a call failed
pub data FailsToOpen {D : Type 0} (state : D → FolderState) (old new : D) : Type 0 where
  AtSync : Makes state Sync Faulted old new → FailsToOpen state old new
  AtFirstList : (synced : D) → Makes state Sync Did old synced → Makes state (ListNames Out) Faulted synced new
      → FailsToOpen state old new
  AtSecondList : (synced listed : D) (handed : ℕ) → Makes state Sync Did old synced
      → Finds state Out handed synced listed → Makes state (ListNames Kept) Faulted listed new → FailsToOpen state old new
  AtKeeping : (synced listed found : D) (handed kept : ℕ) → Makes state Sync Did old synced
      → Finds state Out handed synced listed → Finds state Kept kept listed found → kept < handed
      → Keeps state kept handed false found new → FailsToOpen state old new
