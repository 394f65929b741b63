-- Helpers of private functions: the lines of an input that is read piece by piece, and one file.
use Rattle.std.specs.Prelude.{◌≡◌, ◌<◌, ◌≤◌, ℕ, Bool, true, false, List, [], ◌∷◌, ◌++◌, length, Option, None, Some, IfSome, ⊤}
use Rattle.rly_folder.specs.FolderModel.{FolderState, file_with}
use Rattle.rly_folder_clients.specs.Putting.{FailsToPut}
use Rattle.rly_daemon_folder.specs.Input.{PutsFile, each_line_of, longest_file, most_files}
use Rattle.rly_daemon_folder.specs.declared.put_stop.PutStop.{PutStop}
use Rattle.rly_daemon_folder.specs.declared.put_stop.PutStop.TheVariants as stop

-- the files of the lines that were read between what was left before and what is left after, where that is known
abbrev pub HasRead : Option ℕ → Option (List ℕ) → Option (List ℕ) → List (List ℕ) → Type 0
HasRead destination None left files = ⊤
HasRead destination (Some bytes) None files = ⊥
HasRead destination (Some bytes) (Some left) files =
    each_line_of destination bytes ≡ files ++ each_line_of destination left

-- the next line was put, or there was none
abbrev pub PutsLine : {D : Type 0} → (D → FolderState) → ℕ → Option ℕ → Bool → Option (List ℕ) → Option (List ℕ) → D → D → Type 0
PutsLine state age destination true before left old new =
    (file : List ℕ) × PutsFile state age file old new × HasRead destination before left (file ∷ [])
PutsLine state age destination false before left old new = (new ≡ old) × IfSome before (λ bytes. bytes ≡ [])

-- a file wasn't put, or not durably; or it was, and the wait for custody failed
abbrev pub StopsFile : {D : Type 0} → (D → FolderState) → ℕ → List ℕ → PutStop → D → D → Type 0
StopsFile state age file stop.Input old new = ⊥
StopsFile state age file stop.OutOfMemory old new = ⊥
StopsFile state age file stop.TooLong old new = (new ≡ old) × (longest_file < length file)
StopsFile state age file (stop.Put fault) old new =
    (now : ℕ) × (length file ≤ longest_file) × FailsToPut state (file_with file age) most_files now fault old new
StopsFile state age file (stop.Wait fault) old new = PutsFile state age file old new
