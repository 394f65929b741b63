-- The folder that a program uses.
use Rattle.std.specs.Prelude.{ℕ, List, string_bytes}
use Rattle.rly_folder_file.specs.declared.root.Root.{Root}

-- its path
abbrev pub root_path : {H : Type 0} → Root H → List ℕ
root_path root = string_bytes root.path

-- the name of the program that uses it, which its hidden files have
abbrev pub root_own : {H : Type 0} → Root H → List ℕ
root_own root = string_bytes root.own
