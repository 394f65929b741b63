-- The result of `rly put` and of `rly get`, on the folder of the file system that they opened.
use Rattle.std.specs.Prelude.{◌≡◌, ℕ, Bool, false, true, List, Option}
use Rattle.rly_folder_file.specs.FileFolder.{file_state, folder_path}
use Rattle.rly_folder_file.specs.declared.file_folder.FileFolder.{FileFolder}
use Rattle.rly_folder_clients.specs.declared.form.Form.{Form}
use Rattle.rly_daemon_folder.specs.Input.{PutsInput, files_of}
use Rattle.rly_daemon_folder.specs.Looks.{HasLooked}
use Rattle.rly_daemon_folder.specs.declared.input_form.InputForm.{InputForm}
use Rattle.rly_daemon_folder.specs.declared.folder_command_fault.FolderCommandFault.{FolderCommandFault}
use Rattle.rly_daemon_folder.specs.declared.folder_command_fault.FolderCommandFault.TheVariants.{Over}

-- the files of an input were put into the folder at a path, in order, each with this age limit in microseconds, or none
-- if that is 0
pub record HasPut (H : Type 0) (path : List ℕ) (form : InputForm) (age : ℕ) (input : Option (List ℕ)) : Type 0 where
  pub opened : FileFolder H
  pub left : FileFolder H
  pub path_is : folder_path opened ≡ path
  pub puts : PutsInput file_state age (files_of form) input opened left

-- the payloads of files in the folder at a path were written, in order, and each file removed
pub record HasPrinted (H : Type 0) (path : List ℕ) (form : Form) (most : ℕ) (follow : Bool) (written writes : Option (List ℕ))
    : Type 0 where
  pub opened : FileFolder H
  pub left : FileFolder H
  pub path_is : folder_path opened ≡ path
  pub looked : HasLooked file_state form most follow written writes opened left

-- a wait for custody is over
abbrev pub is_over : FolderCommandFault → Bool
is_over (Over number) = true
is_over _ = false
