-- The calls of a folder in order, with how each returned, and the changes that other programs made meanwhile.
use Rattle.std.specs.Prelude.{◌≡◌, ◌⊎◌, Bool, true, false, ℕ, List, [], ◌∷◌, Option, ⊤}
use Rattle.std.proofs.Common.{inl, inr}
use Rattle.std.specs.List.{list_all}
use Rattle.rly_folder.specs.FolderCalls.{Declined, Done, Failed, Faulted, FolderCall, FolderEvent, Makes, Other, Outcome}
use Rattle.rly_folder.specs.FolderModel.{File, FolderState}
use Rattle.rly_folder.specs.declared.name.Name.{Name}

-- a call and how it returned
abbrev pub Step : Type 0
Step = FolderCall × Outcome

-- exactly these calls were made in this order, and each returned so: all of them, or those before one that failed
abbrev pub Runs : {D : Type 0} → (D → FolderState) → List Step → Bool → D → D → Type 0
Runs state [] whole old new = (whole ≡ true) × (new ≡ old)
Runs {D} state (step ∷ steps) whole old new =
    ((next : D) × Makes state step.0 step.1 old next × Runs state steps whole next new)
    ⊎ ((whole ≡ false) × Makes state step.0 Faulted old new)

-- if another program changed a name, it gave it one of these files, or none if that is one of these
abbrev pub gives_only : (Name → Option File → Bool) → FolderEvent → Bool
gives_only given (Done call) = true
gives_only given (Declined call) = true
gives_only given (Failed call done hidden) = true
gives_only given (Other name file) = given name file

abbrev pub OthersGive : (Name → Option File → Bool) → List FolderEvent → Type 0
OthersGive given events = list_all (gives_only given) events ≡ true

-- the same over all calls of a list
abbrev pub OthersGiveIn : {D : Type 0} (state : D → FolderState) (given : Name → Option File → Bool)
    (steps : List Step) (whole : Bool) (old new : D) → Runs state steps whole old new → Type 0
OthersGiveIn state given [] whole old new runs = ⊤
OthersGiveIn state given (step ∷ steps) whole old new (inl go) =
    OthersGive given go.1.events × OthersGiveIn state given steps whole go.0 new go.2
OthersGiveIn state given (step ∷ steps) whole old new (inr stop) = OthersGive given stop.1.events
