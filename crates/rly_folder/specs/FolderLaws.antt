-- What a name had over a list of events.
use Rattle.std.specs.Prelude.{◌≡◌, ◌⊎◌, List, [], ◌∷◌, Option}
use Rattle.rly_folder.specs.FolderCalls.{FolderEvent, contents_after}
use Rattle.rly_folder.specs.FolderModel.{Contents, File, Files}
use Rattle.rly_folder.specs.declared.name.Name.{Name}

-- the name had this file, or none, before an event of the list or after the last one
abbrev pub Had : List FolderEvent → Contents → Name → Option File → Type 0
Had [] contents name file = contents.files name ≡ file
Had (event ∷ events) contents name file =
    (contents.files name ≡ file) ⊎ Had events (contents_after event contents) name file

-- each name has what it had at one of these moments
abbrev pub HasHad : List FolderEvent → Contents → Files → Type 0
HasHad events contents image = (name : Name) → Had events contents name (image name)
