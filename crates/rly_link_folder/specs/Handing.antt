-- The files of a folder while datagrams are handed out: of what a station sees, and of each crash image.
use Rattle.std.specs.Prelude.{◌≡◌, ◌⊎◌, ◌≤◌, ◌<◌, ◌+◌, ℕ, Bool, true, List, [], ◌∷◌, None, Some, IsSome, ⊤}
use Rattle.rly_folder.specs.FolderCalls.{Declined, Done, Failed, FolderEvent, Other}
use Rattle.rly_folder.specs.FolderModel.{File, Files, FolderState, LeavesOnly}
use Rattle.rly_folder.specs.Names.{name_of}
use Rattle.rly_folder.specs.declared.name.Area.TheVariants.{Kept, Out}

-- if another program changed a name, it removed a file that was handed out: a reader took the datagram of its number
abbrev pub IsReader : (ℕ → Bool) → FolderEvent → Type 0
IsReader read (Done call) = ⊤
IsReader read (Declined call) = ⊤
IsReader read (Failed call done hidden) = ⊤
IsReader read (Other name file) = (number : ℕ) × (name ≡ name_of Out number) × (file ≡ None) × (read number ≡ true)

-- other programs only read
abbrev pub OnlyReaders : (ℕ → Bool) → List FolderEvent → Type 0
OnlyReaders read [] = ⊤
OnlyReaders read (event ∷ events) = IsReader read event × OnlyReaders read events

-- the datagram of a number, whose payload and limit these are, is a file, unless a reader took it
abbrev pub IsThere : (ℕ → File) → (ℕ → Bool) → Files → ℕ → Type 0
IsThere datagrams read files number = (files (name_of Out number) ≡ Some (datagrams number)) ⊎ (read number ≡ true)

-- the datagrams up to the greatest number are handed out, and the next one may be
pub record HandedOut (datagrams : ℕ → File) (read : ℕ → Bool) (greatest : ℕ) (files : Files) : Type 0 where
  -- a hidden name has the greatest number, or the next
  pub kept : (greatest ≡ 0) ⊎ IsSome (files (name_of Kept greatest)) ⊎ IsSome (files (name_of Kept (greatest + 1)))
  -- no number after the next has a name
  pub bound : (n : ℕ) → greatest + 1 < n → (files (name_of Out n) ≡ None) × (files (name_of Kept n) ≡ None)
  -- each file is whole: the payload and the limit of its number's datagram
  pub whole : (n : ℕ) (file : File) → files (name_of Out n) ≡ Some file → file ≡ datagrams n
  pub there : (n : ℕ) → 1 ≤ n → n ≤ greatest → IsThere datagrams read files n
  -- the next number is kept only if its datagram is a file
  pub next : IsSome (files (name_of Kept (greatest + 1))) → IsThere datagrams read files (greatest + 1)

-- a folder that keeps to the model, in which the datagrams up to this number are handed out: a station may go on
pub record Holds (datagrams : ℕ → File) (read : ℕ → Bool) (greatest : ℕ) (folder : FolderState) : Type 0 where
  pub honest : folder.honest
  pub seen : HandedOut datagrams read greatest folder.seen.files
  pub each : (c : Files) → folder.images c → HandedOut datagrams read greatest c

-- from one greatest number to another: a crash at any moment leaves files that open to the first at least
pub record Serves (datagrams : ℕ → File) (read : ℕ → Bool) (greatest next : ℕ) (old new : FolderState) : Type 0 where
  pub crashes : LeavesOnly old new (HandedOut datagrams read greatest)
  pub holds : Holds datagrams read next new

-- the greatest number that has a name, 0 if there is none
pub record IsGreatest (files : Files) (number : ℕ) : Type 0 where
  pub found : (number ≡ 0) ⊎ IsSome (files (name_of Out number)) ⊎ IsSome (files (name_of Kept number))
  pub bound : (n : ℕ) → number < n → (files (name_of Out n) ≡ None) × (files (name_of Kept n) ≡ None)
