-- The keys of a plan, table by table (docs/FORMATS.md, "The plan").
use Rattle.std.specs.Prelude.{ℕ, Bool, true, false, ◌&&◌, List, [], ◌∷◌, codes, if◌then◌else◌, is_some}
use Rattle.std.specs.List.{list_any}
use Rattle.std.specs.Str.{bytes_eq}
use Rattle.toml.specs.Data.{Data, array, table, Items, no_items, item, Members, no_members, member, get_member}
use Rattle.rly_plan_syntax.specs.declared.key_path.Row.{Row}
use Rattle.rly_plan_syntax.specs.declared.key_path.Row.TheVariants.{Peer, Hop, Route}

-- the far end of the table's link is a folder
abbrev pub has_folder : Members → Bool
has_folder ms = is_some (get_member (codes "folder") ms)

-- the keys of a table of each array; one whose link leads to a folder has keys of its own
abbrev pub keys_of : Row → (folder : Bool) → List (List ℕ)
keys_of Peer false = codes "id" ∷ codes "station" ∷ codes "listen" ∷ codes "remote" ∷ codes "key" ∷ []
keys_of Peer true = codes "id" ∷ codes "station" ∷ codes "folder" ∷ codes "destination" ∷ codes "limit" ∷ []
keys_of Hop false = codes "id" ∷ codes "station" ∷ codes "listen" ∷ codes "remote" ∷ codes "key"
    ∷ codes "resend" ∷ codes "rate" ∷ codes "lead" ∷ codes "contacts" ∷ []
keys_of Hop true = codes "id" ∷ codes "station" ∷ codes "folder" ∷ codes "most" ∷ codes "lead" ∷ codes "contacts" ∷ []
keys_of Route folder = codes "destination" ∷ codes "hop" ∷ []

abbrev pub has_key : Row → (folder : Bool) → List ℕ → Bool
has_key row folder key = list_any (bytes_eq key) (keys_of row folder)

-- the value has no key at any depth
abbrev mutual
  pub has_no_key : Data → Bool
  has_no_key (array items) = items_have_no_key items
  has_no_key (table no_members) = true
  has_no_key (table (member _ _ _)) = false
  has_no_key _ = true

  pub items_have_no_key : Items → Bool
  items_have_no_key no_items = true
  items_have_no_key (item value rest) = has_no_key value && items_have_no_key rest

-- each key of the table is known, and its value has no keys
abbrev pub row_is_known : Row → (folder : Bool) → Members → Bool
row_is_known row folder no_members = true
row_is_known row folder (member key value rest) =
    (has_key row folder key && has_no_key value) && row_is_known row folder rest

-- the same of an item that is a table
abbrev pub item_is_known : Row → Data → Bool
item_is_known row (table members) = row_is_known row (has_folder members) members
item_is_known row value = has_no_key value

abbrev pub items_are_known : Row → Items → Bool
items_are_known row no_items = true
items_are_known row (item value rest) = item_is_known row value && items_are_known row rest

abbrev pub rows_are_known : Row → Data → Bool
rows_are_known row (array items) = items_are_known row items
rows_are_known row value = has_no_key value

-- a key of the plan itself, and those in its value
abbrev pub is_known : List ℕ → Data → Bool
is_known key value =
    if bytes_eq key (codes "station") then has_no_key value
    else if bytes_eq key (codes "peer") then rows_are_known Peer value
    else if bytes_eq key (codes "hop") then rows_are_known Hop value
    else if bytes_eq key (codes "route") then rows_are_known Route value
    else false

-- each key of the document is known in its table
abbrev pub keys_are_known : Members → Bool
keys_are_known no_members = true
keys_are_known (member key value rest) = is_known key value && keys_are_known rest
