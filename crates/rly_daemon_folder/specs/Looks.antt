-- Looks at a folder for the files that were handed out (docs/COMMANDS.md, "rly get").
use Rattle.std.specs.Prelude.{◌≡◌, ◌-◌, ℕ, Bool, true, false, List, [], ◌∷◌, sum, Option}
use Rattle.rly_folder.specs.FolderModel.{FolderState}
use Rattle.rly_folder_clients.specs.Getting.{Gets, StopsGet}
use Rattle.rly_folder_clients.specs.declared.form.Form.{Form}
use Rattle.rly_folder_clients.specs.declared.getting.GetFault.{GetFault}

-- one look after another, with the number of payloads that each printed, of so many at most in all
abbrev pub Looks : {D : Type 0} → (D → FolderState) → Form → ℕ → List ℕ → Option (List ℕ) → Option (List ℕ) → D → D → Type 0
Looks state form most [] written writes old new = (writes ≡ written) × (new ≡ old)
Looks {D} state form most (count ∷ counts) written writes old new = (between : Option (List ℕ)) × (next : D)
    × Gets state form most count written between old next × Looks state form (most - count) counts between writes next new

-- one look, or as many as print so many payloads
abbrev pub HasLooked : {D : Type 0} → (D → FolderState) → Form → ℕ → (follow : Bool) → Option (List ℕ) → Option (List ℕ)
    → D → D → Type 0
HasLooked state form most false written writes old new = (count : ℕ) × Gets state form most count written writes old new
HasLooked state form most true written writes old new =
    (counts : List ℕ) × Looks state form most counts written writes old new × (sum counts ≡ most)

-- the first look failed, or one after others
abbrev pub StopsLooking : {D : Type 0} → (D → FolderState) → Form → ℕ → (follow : Bool) → GetFault → Option (List ℕ)
    → Option (List ℕ) → D → D → Type 0
StopsLooking state form most false why written writes old new = StopsGet state form why written writes old new
StopsLooking {D} state form most true why written writes old new =
    (counts : List ℕ) × (between : Option (List ℕ)) × (stopped : D)
    × Looks state form most counts written between old stopped × StopsGet state form why between writes stopped new
