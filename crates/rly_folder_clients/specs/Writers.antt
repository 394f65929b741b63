-- The changes that other programs make during a put.
use Rattle.std.specs.Prelude.{Bool, true, ℕ, List, Option, not}
use Rattle.rly_folder.specs.FolderCalls.{Outcome}
use Rattle.rly_folder.specs.FolderModel.{File, FolderState}
use Rattle.rly_folder.specs.Names.{is_same_name}
use Rattle.rly_folder.specs.declared.name.Name.{Name}
use Rattle.rly_folder_clients.specs.Putting.{AtLink, AtList, AtSync, AtWrite, Names, Puts, StopsPut, tries}
use Rattle.rly_folder_clients.specs.Runs.{OthersGive, OthersGiveIn}

-- this name isn't changed
abbrev pub leaves : Name → Name → Option File → Bool
leaves to name file = not (is_same_name to name)

-- names got only such files from other programs while a file was given its name
abbrev pub OthersInNames : {D : Type 0} {state : D → FolderState} {file : File} {first more : ℕ} {outcome : Outcome} {old new : D}
    → (Name → Option File → Bool) → Names state file first more outcome old new → Type 0
OthersInNames {state = state} {file} {first} {more} {old = old} given names =
    OthersGiveIn state given (tries file first more) true old names.tried names.refused × OthersGive given names.links.events

-- while a file was put
abbrev pub OthersInPut : {D : Type 0} {state : D → FolderState} {file : File} {now number : ℕ} {durable : Bool} {old new : D}
    → (Name → Option File → Bool) → Puts state file now number durable old new → Type 0
OthersInPut given puts =
    OthersGive given puts.lists.makes.events × OthersInNames given puts.names × OthersGive given puts.syncs.events

-- while a put failed
abbrev pub OthersInStop : {D : Type 0} {state : D → FolderState} {file : File} {now : ℕ} {old new : D}
    → (Name → Option File → Bool) → StopsPut state file now old new → Type 0
OthersInStop given (AtList lists) = OthersGive given lists.events
OthersInStop given (AtWrite numbers listed lists writes) = OthersGive given lists.makes.events × OthersGive given writes.events
OthersInStop given (AtLink numbers more listed lists names) =
    OthersGive given lists.makes.events × OthersInNames given names
OthersInStop given (AtSync number puts) = OthersInPut given puts
