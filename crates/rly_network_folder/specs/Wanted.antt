-- The calls by which the wanted files are put.
use Rattle.std.specs.Prelude.{◌≡◌, ◌⊎◌, ℕ, List, [], ◌∷◌, ◌++◌, length, Bool, false, true, not, ◌||◌, Option, Some, None}
use Rattle.std.specs.Global.{Global, Vec}
use Rattle.std.specs.Prelude.{String, if◌then◌else◌, map, string_bytes}
use Rattle.std.specs.List.{flat_map, list_all}
use Rattle.std.specs.Option.{option_map_or}
use Rattle.std.specs.Str.{bytes_eq}
use Rattle.hex.specs.Hex.{encode_lower}
use Rattle.rly_network_folder.specs.ShelfCalls.{ShelfCall, Looked, Made, Replaced, is_look}
use Rattle.rly_network_folder.specs.declared.wanted.Wanted.{Wanted}
use Rattle.rly_network_folder.specs.declared.wanted.Wanted.TheVariants.{Key, Text}

-- the line of a key: 64 hexadecimal digits
pub record IsKeyLine (line : List ℕ) : Type 0 where
  pub key : List ℕ
  pub long : length key ≡ 32
  pub spelled : line ≡ encode_lower key ++ 10 ∷ []

-- the file that was looked for has this text
abbrev pub is_text : (text : List ℕ) → (found : Option (List ℕ)) → Bool
is_text text found = option_map_or (λ bytes. bytes_eq bytes text) found false

-- A text is looked for, and replaced only if it differs.
abbrev pub text_calls : (path text : List ℕ) → (found : Option (List ℕ)) → List ShelfCall
text_calls path text found =
    Looked path found ∷ (if is_text text found then [] else Replaced path text ∷ [])

-- The paths are looked at in their order up to the first one that has a key, or all of them.
abbrev pub missing : String Global → ShelfCall
missing path = Looked (string_bytes path) None

abbrev pub IsFirst : (others : List (String Global)) → (far : Option (List ℕ)) → List ShelfCall → Type 0
IsFirst others None calls = calls ≡ map missing others
IsFirst others (Some key) calls = (before after : List (String Global)) × (path : String Global) × (others ≡ before ++ path ∷ after)
    × (calls ≡ map missing before ++ Looked (string_bytes path) (Some key) ∷ [])

-- the key was elsewhere, or it is a new one
abbrev pub IsKeyFrom : (far : Option (List ℕ)) → (key : List ℕ) → Type 0
IsKeyFrom (Some there) key = key ≡ there
IsKeyFrom None key = IsKeyLine key

-- A key is looked for. One that is there is opened by no writer.
pub record IsKept (path : List ℕ) (new : Bool) (calls : List ShelfCall) : Type 0 where
  pub there : List ℕ
  pub stays : new ≡ false
  pub looked : calls ≡ Looked path (Some there) ∷ []

-- One that isn't there is made: the one that is elsewhere, or a new one.
pub record IsMade (path : List ℕ) (others : List (String Global)) (new : Bool) (calls : List ShelfCall) : Type 0 where
  pub far : Option (List ℕ)
  pub key : List ℕ
  pub looks : List ShelfCall
  pub from : IsKeyFrom far key
  pub first : IsFirst others far looks
  pub comes : new ≡ true
  pub made : calls ≡ Looked path None ∷ (looks ++ Made path key ∷ [])

abbrev pub IsKeyPut : (path : List ℕ) → (others : List (String Global)) → Bool → List ShelfCall → Type 0
IsKeyPut path others new calls = IsKept path new calls ⊎ IsMade path others new calls

-- one file is put by these calls, and is new or not
abbrev pub IsPut : Wanted → Bool → List ShelfCall → Type 0
IsPut (Text path text) new calls = (found : Option (List ℕ)) × (new ≡ not (is_text (string_bytes text) found))
    × (calls ≡ text_calls (string_bytes path) (string_bytes text) found)
IsPut (Key path others) new calls = IsKeyPut (string_bytes path) others.items new calls

-- each is, in their order, and the last word is whether one is new
abbrev pub AreAllPut : List Wanted → Bool → List ShelfCall → Type 0
AreAllPut [] new calls = (new ≡ false) × (calls ≡ [])
AreAllPut (one ∷ wanted) new calls = (first rest : Bool) × (own more : List ShelfCall) × IsPut one first own
    × AreAllPut wanted rest more × (new ≡ (first || rest)) × (calls ≡ own ++ more)

-- the same for each station, with the word of each
abbrev pub AreStationsPut : List (Vec Wanted) → List Bool → List ShelfCall → Type 0
AreStationsPut [] [] calls = calls ≡ []
AreStationsPut [] (new ∷ news) calls = ⊥
AreStationsPut (wanted ∷ stations) [] calls = ⊥
AreStationsPut (wanted ∷ stations) (new ∷ news) calls =
    (own more : List ShelfCall) × AreAllPut wanted.items new own × AreStationsPut stations news more × (calls ≡ own ++ more)

-- A put that failed: the first of these files are put, in their order, and after that files were only looked for. The
-- first one left failed: it may be there, but not durably.
pub record AreSomePut (wanted : List Wanted) (calls : List ShelfCall) : Type 0 where
  pub done : List Wanted
  pub left : List Wanted
  pub new : Bool
  pub own : List ShelfCall
  pub looks : List ShelfCall
  pub split : wanted ≡ done ++ left
  pub put : AreAllPut done new own
  pub only : list_all is_look looks ≡ true
  pub all : calls ≡ own ++ looks

-- the files of all stations, one after another
abbrev pub all_wanted : List (Vec Wanted) → List Wanted
all_wanted stations = flat_map (λ w. w.items) stations
