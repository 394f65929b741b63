-- The calls of a folder as one list, with how each returned.
use Rattle.std.specs.Prelude.{◌≡◌, ◌⊎◌, Bool, true, false, List, [], ◌∷◌, ◌++◌}
use Rattle.rly_folder.specs.FolderCalls.{Faulted, FolderCall, FolderEvent, IsOneCall, Leads, Outcome}
use Rattle.rly_folder.specs.FolderModel.{FolderState, IsSpent}

-- a call and how it returned
abbrev pub Step : Type 0
Step = FolderCall × Outcome

-- these calls were made in this order, and each returned as the list says: all of them, or those before one that failed.
-- A call that failed because the number of calls has its maximum value is no event
abbrev pub AreMade : Type 0 → List Step → Bool → List FolderEvent → Type 0
AreMade Spent [] whole events = (whole ≡ true) × (events ≡ [])
AreMade Spent (step ∷ steps) whole events =
    ((first : List FolderEvent) × (rest : List FolderEvent) × (events ≡ first ++ rest) × IsOneCall step.0 step.1 first
    × AreMade Spent steps whole rest)
    ⊎ ((whole ≡ false) × (IsOneCall step.0 Faulted events ⊎ ((events ≡ []) × Spent)))

-- exactly the calls of a list were made, all of them or up to the first that failed
pub record MakesEach {D : Type 0} (state : D → FolderState) (steps : List Step) (whole : Bool) (old new : D)
    : Type 0 where
  pub events : List FolderEvent
  pub leads : Leads events (state old) (state new)
  pub made : AreMade (IsSpent (state new)) steps whole events
