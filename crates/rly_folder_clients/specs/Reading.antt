-- The files of a folder while a reader prints those handed out, and the changes that other programs make meanwhile.
use Rattle.std.specs.Prelude.{◌≡◌, ◌⊎◌, ◌<◌, ◌≤◌, ℕ, Bool, true, false, List, [], ◌∷◌, ◌++◌, Option, None, Some, Contains, IsSome, ⊤}
use Rattle.rly_folder.specs.FolderModel.{File, Files, FolderState, LeavesOnly}
use Rattle.rly_folder.specs.Names.{name_of}
use Rattle.rly_folder.specs.declared.name.Area.TheVariants.{Out, Printed}
use Rattle.rly_folder.specs.declared.name.Name.{Name}
use Rattle.rly_folder.specs.FolderCalls.{Remove}
use Rattle.rly_folder_clients.specs.Getting.{AtFinish, AtOld, AtOutput, AtRead, Begins, FailsToRead, Finishes, Handles, HandlesEach, IsGone, IsNext, IsOld}
use Rattle.rly_folder_clients.specs.Getting.{Opens, Prints, StopsAt, if_done, last_after}
use Rattle.rly_folder_clients.specs.Holding.{Holds}
use Rattle.rly_folder_clients.specs.Runs.{OthersGive, OthersGiveIn}
use Rattle.rly_folder_clients.specs.declared.getting.GetFault.{GetFault}
use Rattle.rly_folder_clients.specs.declared.getting.GetFault.TheVariants as fault

-- a reader opens to this number, and each file that waits above it is there
pub record Unread (waits : ℕ → Option File) (last : ℕ) (files : Files) : Type 0 where
  -- its hidden name has the number of the last file that was printed, if any was
  pub kept : (last ≡ 0) ⊎ IsSome (files (name_of Printed last))
  -- and no greater one
  pub bound : (n : ℕ) → last < n → files (name_of Printed n) ≡ None
  pub there : (n : ℕ) (payload : File) → waits n ≡ Some payload → last < n
      → files (name_of Out n) ≡ Some payload

-- it opens to one number or to the other
abbrev pub UnreadFrom : (ℕ → Option File) → ℕ → ℕ → Files → Type 0
UnreadFrom waits last next files = Unread waits last files ⊎ Unread waits next files

-- a crash at any moment leaves files that open to one of these numbers, and at the end they open to this one
pub record Advances (waits : ℕ → Option File) (low high last : ℕ) (old new : FolderState) : Type 0 where
  pub crashes : LeavesOnly old new (UnreadFrom waits low high)
  pub holds : Holds (Unread waits last) new

-- each file that waits above one number, up to another, is among those that were printed
pub record IsPrintedUpTo (waits : ℕ → Option File) (printed : List File) (first last : ℕ) : Type 0 where
  pub within : first ≤ last
  pub each : (n : ℕ) (payload : File) → waits n ≡ Some payload → first < n → n ≤ last → Contains printed payload

-- files open to a number up to which that is so, or to one of two others
abbrev pub OpensToPrinted : (ℕ → Option File) → List File → ℕ → ℕ → ℕ → Files → Type 0
OpensToPrinted waits printed low high first files =
    (m : ℕ) × Unread waits m files × ((m ≡ low) ⊎ (m ≡ high) ⊎ IsPrintedUpTo waits printed first m)

-- other programs leave the reader's hidden names, and the files that wait
pub record Spares (waits : ℕ → Option File) (given : Name → Option File → Bool) : Type 0 where
  pub hidden : (n : ℕ) (file : Option File) → given (name_of Printed n) file ≡ false
  pub waiting : (n : ℕ) (payload : File) (file : Option File) → waits n ≡ Some payload
      → given (name_of Out n) file ≡ true → file ≡ Some payload

-- names got only such files from other programs while a file was printed
abbrev pub OthersInFinish : {D : Type 0} {state : D → FolderState} {last number : ℕ} {whole : Bool} {old new : D}
    → (Name → Option File → Bool) → Finishes state last number whole old new → Type 0
OthersInFinish {state = state} {number = number} {whole} {old} {new} given finishes = OthersGiveIn state given
    (finishes.steps ++ (Remove (name_of Out number), if_done finishes.there) ∷ []) whole old new finishes.runs

abbrev pub OthersInPrint : {D : Type 0} {state : D → FolderState} {last number : ℕ} {payload : File} {whole : Bool} {old new : D}
    → (Name → Option File → Bool) → Prints state last number payload whole old new → Type 0
OthersInPrint given prints = OthersGive given prints.reads.makes.events × OthersInFinish given prints.finishes

-- while it was handled
abbrev pub OthersInHandle : {D : Type 0} {state : D → FolderState} {last number : ℕ} {printed : Option File} {old new : D}
    → (Name → Option File → Bool) → Handles state last number printed old new → Type 0
OthersInHandle given (IsNext above payload is prints) = OthersInPrint given prints
OthersInHandle given (IsGone above is reads) = OthersGive given reads.makes.events
OthersInHandle given (IsOld below is there removes) = OthersGive given removes.events

-- while a read failed
abbrev pub OthersInFailedRead : {D : Type 0} (state : D → FolderState) (given : Name → Option File → Bool)
    (number : ℕ) (why : GetFault) (old new : D) → FailsToRead state number why old new → Type 0
OthersInFailedRead state given number fault.Folder old new fails = OthersGive given fails.events
OthersInFailedRead state given number fault.TooLong old new fails = OthersGive given fails.0.events
OthersInFailedRead state given number fault.Output old new fails = ⊤

-- while it wasn't handled to its end
abbrev pub OthersInStop : {D : Type 0} {state : D → FolderState} {last number : ℕ} {why : GetFault} {printed : Option File} {old new : D}
    → (Name → Option File → Bool) → StopsAt state last number why printed old new → Type 0
OthersInStop {state = state} {number = number} {why} {old = old} {new} given (AtRead above is fails) =
    OthersInFailedRead state given number why old new fails
OthersInStop given (AtOutput above because payload is reads) = OthersGive given reads.makes.events
OthersInStop given (AtFinish above because payload is prints) = OthersInPrint given prints
OthersInStop given (AtOld below because is removes) = OthersGive given removes.events

-- while files were handled
abbrev pub OthersInEach : {D : Type 0} (state : D → FolderState) (given : Name → Option File → Bool)
    (first : ℕ) (numbers : List ℕ) (printed : List File) (last : ℕ) (old new : D)
    → HandlesEach state first numbers printed last old new → Type 0
OthersInEach state given first [] printed last old new each = ⊤
OthersInEach state given first (number ∷ numbers) printed last old new each = OthersInHandle given each.4
    × OthersInEach state given (last_after first number each.0) numbers each.1 last each.2 new each.5

-- while a reader opened
abbrev pub OthersInOpens : {D : Type 0} {state : D → FolderState} {last : ℕ} {old new : D}
    → (Name → Option File → Bool) → Opens state last old new → Type 0
OthersInOpens given opens = OthersGive given opens.syncs.events × OthersGive given opens.lists.events

abbrev pub OthersInBegins : {D : Type 0} {state : D → FolderState} {last : ℕ} {numbers : List ℕ} {old new : D}
    → (Name → Option File → Bool) → Begins state last numbers old new → Type 0
OthersInBegins given begins = OthersInOpens given begins.opens × OthersGive given begins.lists.events
