-- The files of an input, and the calls that put them (docs/COMMANDS.md, "rly put").
use Rattle.std.specs.Prelude.{◌≡◌, ◌<◌, ◌≤◌, ◌/◌, ◌%◌, ℕ, if◌then◌else◌, true, List, [], ◌∷◌, ◌++◌, length, map}
use Rattle.std.specs.Prelude.{Option, None, Some, IfSome}
use Rattle.rly_folder.specs.FolderModel.{FolderState, file_with}
use Rattle.rly_folder_clients.specs.Putting.{FailsToPut, HadRoom, Puts}
use Rattle.rly_daemon_lines.specs.Lines.{lines_of}
use Rattle.rly_daemon_folder.specs.declared.input_form.InputForm.{InputForm}
use Rattle.rly_daemon_folder.specs.declared.put_stop.PutStop.{PutStop}
use Rattle.rly_daemon_folder.specs.declared.put_stop.PutStop.TheVariants as stop

-- the two bytes of a destination, the greater one first
abbrev pub front_of : Option ℕ → List ℕ
front_of None = []
front_of (Some destination) = destination / 256 ∷ destination % 256 ∷ []

-- one file of all of an input
abbrev pub whole_of : Option ℕ → List ℕ → List (List ℕ)
whole_of destination input = (front_of destination ++ input) ∷ []

-- a file of each of its lines
abbrev pub each_line_of : Option ℕ → List ℕ → List (List ℕ)
each_line_of destination input = map (λ line. front_of destination ++ line) (lines_of input)

-- the files of an input in this form
abbrev pub files_of : InputForm → List ℕ → List (List ℕ)
files_of form = if form.lines then each_line_of form.destination else whole_of form.destination

-- the bytes of the longest file that is put, and the number of files that may wait
abbrev pub longest_file : ℕ
longest_file = 8194

abbrev pub most_files : ℕ
most_files = 16384

-- a file was put, durably, with this age limit in microseconds, 0 for none
pub record PutsFile {D : Type 0} (state : D → FolderState) (age : ℕ) (file : List ℕ) (old new : D) : Type 0 where
  pub short : length file ≤ longest_file
  pub room : HadRoom state most_files old
  -- the moment at which it was put, and its number
  pub now : ℕ
  pub number : ℕ
  pub clock : now ≤ number
  pub puts : Puts state (file_with file age) now number true old new

-- files were put, one after another
abbrev pub PutsEach : {D : Type 0} → (D → FolderState) → ℕ → List (List ℕ) → D → D → Type 0
PutsEach state age [] old new = new ≡ old
PutsEach {D} state age (file ∷ files) old new = (next : D) × PutsFile state age file old next × PutsEach state age files next new

-- all files of a known input were put, in order
pub record PutsInput {D : Type 0} (state : D → FolderState) (age : ℕ) (files_in : List ℕ → List (List ℕ)) (input : Option (List ℕ))
    (old new : D) : Type 0 where
  pub files : List (List ℕ)
  pub each : PutsEach state age files old new
  pub all : IfSome input (λ bytes. files ≡ files_in bytes)

-- the files of a known input begin with these
abbrev pub Begin : (List ℕ → List (List ℕ)) → Option (List ℕ) → List (List ℕ) → Type 0
Begin files_in input files = IfSome input (λ bytes. (rest : List (List ℕ)) × (files_in bytes ≡ files ++ rest))

-- after these files no more was put, and why
abbrev pub StopsAfter : {D : Type 0} → (D → FolderState) → ℕ → (List ℕ → List (List ℕ)) → Option (List ℕ) → List (List ℕ) → PutStop
    → D → D → Type 0
StopsAfter state age files_in input files stop.Input old new = (new ≡ old) × Begin files_in input files
StopsAfter state age files_in input files stop.OutOfMemory old new = (new ≡ old) × Begin files_in input files
-- the next file is too long
StopsAfter state age files_in input files stop.TooLong old new = (new ≡ old) × IfSome input (λ bytes. (file : List ℕ)
    × (rest : List (List ℕ)) × (files_in bytes ≡ files ++ file ∷ rest) × (longest_file < length file))
-- the next file wasn't put, or not durably
StopsAfter state age files_in input files (stop.Put fault) old new = (file : List ℕ) × (now : ℕ)
    × (length file ≤ longest_file) × FailsToPut state (file_with file age) most_files now fault old new
    × Begin files_in input (files ++ file ∷ [])
-- the wait for custody of some of these failed
StopsAfter state age files_in input files (stop.Wait fault) old new = (new ≡ old) × Begin files_in input files

-- the first files of a known input were put, in order, and no more
pub record StopsInput {D : Type 0} (state : D → FolderState) (age : ℕ) (files_in : List ℕ → List (List ℕ)) (why : PutStop)
    (input : Option (List ℕ)) (old new : D) : Type 0 where
  pub files : List (List ℕ)
  pub stopped : D
  pub each : PutsEach state age files old stopped
  pub stops : StopsAfter state age files_in input files why stopped new
