-- The bytes that are printed of payloads.
use Rattle.std.specs.Prelude.{ℕ, Bool, if◌then◌else◌, List, [], ◌∷◌, ◌++◌, drop, Option, None, Some}
use Rattle.rly_folder.specs.FolderModel.{File}
use Rattle.rly_folder_clients.specs.declared.form.Form.{Form}

abbrev pub newline_if : Bool → List ℕ
newline_if lines = if lines then 10 ∷ [] else []

-- of one payload: without its first two bytes, its destination, unless it is raw; and with a newline behind it if each
-- is a line
abbrev pub bytes_of : Form → List ℕ → List ℕ
bytes_of form payload = (if form.raw then payload else drop 2 payload) ++ newline_if form.lines

-- of the payloads of some files
abbrev pub bytes_of_each : Form → List File → List ℕ
bytes_of_each form [] = []
bytes_of_each form (file ∷ files) = bytes_of form file.bytes ++ bytes_of_each form files

-- the files of one, if there is one
abbrev pub if_any : Option File → List File
if_any None = []
if_any (Some file) = file ∷ []
