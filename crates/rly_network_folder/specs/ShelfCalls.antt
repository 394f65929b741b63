-- The calls of a shelf that succeed.
use Rattle.std.specs.Prelude.{◌≡◌, ℕ, Bool, false, true, List, [], ◌∷◌, ◌++◌, Option, option_map}
use Rattle.std.specs.List.{list_all}

pub data ShelfCall : Type 0 where
  -- a file was looked for: its bytes, if it was there
  Looked : (path : List ℕ) (found : Option (List ℕ)) → ShelfCall
  -- it has these bytes, whatever it had
  Replaced : (path bytes : List ℕ) → ShelfCall
  -- it wasn't there, and has these bytes
  Made : (path bytes : List ℕ) → ShelfCall

-- these calls were made, if the shelf tells its calls
abbrev pub AllCalls : Option (List ShelfCall) → Option (List ShelfCall) → List ShelfCall → Type 0
AllCalls old new calls = new ≡ option_map (λ before. before ++ calls) old

-- this call was made
abbrev pub Calls : Option (List ShelfCall) → Option (List ShelfCall) → ShelfCall → Type 0
Calls old new call = AllCalls old new (call ∷ [])

abbrev pub is_look : ShelfCall → Bool
is_look (Looked path found) = true
is_look (Replaced path bytes) = false
is_look (Made path bytes) = false

-- whatever was looked for, nothing was written
abbrev pub OnlyLooked : Option (List ShelfCall) → Option (List ShelfCall) → Type 0
OnlyLooked old new = (looks : List ShelfCall) × (list_all is_look looks ≡ true) × AllCalls old new looks
