-- What is said of a plan's first fault, behind its location: what is there, and what to write (docs/FORMATS.md,
-- "The plan"). Tables and contacts count from 1.
use Rattle.std.specs.Prelude.{ℕ, ℤ, pos, suc, ◌+◌, ◌-◌, ◌==◌, nat_le, nat_lt, List, [], ◌∷◌, ◌++◌, codes, length}
use Rattle.std.specs.Prelude.{Bool, true, false, ◌&&◌, ◌||◌, if◌then◌else◌, Option, Some, None, is_some}
use Rattle.std.specs.Prelude.{option_and_then}
use Rattle.std.specs.Fmt.{decimal, signed_decimal}
use Rattle.std.specs.Ordering.{int_eq}
use Rattle.std.specs.List.{list_all, list_any}
use Rattle.std.specs.Str.{bytes_eq}
use Rattle.std.specs.Char.{is_ascii_alphanumeric}
use Rattle.toml.specs.Data.{Data, array, as_array, as_table, at, get, get_member, integer, Items, item, Members, member}
use Rattle.toml.specs.Data.{no_items, no_members, string, type_name}
use Rattle.toml.specs.Parse.{parse_document}
use Rattle.rly_core.specs.declared.limits.TheConstants.{MAX_CONTACTS, MAX_HOPS, MAX_PEERS, MAX_RESEND, MIN_RESEND}
use Rattle.rly_core.specs.declared.limits.TheConstants.{MOMENT_LIMIT}
use Rattle.rly_core.specs.declared.refusal.Refusal.{Refusal}
use Rattle.rly_core.specs.declared.refusal.Refusal.TheVariants.{Overlap, Unsorted}
use Rattle.rly_plan_syntax.specs.declared.draft.ContactDraft.{ContactDraft}
use Rattle.rly_plan_syntax.specs.declared.key_path.PlanKey.{PlanKey}
use Rattle.rly_plan_syntax.specs.declared.key_path.PlanKey.TheVariants as key
use Rattle.rly_plan_syntax.specs.declared.key_path.KeyPath.{KeyPath}
use Rattle.rly_plan_syntax.specs.declared.key_path.KeyPath.TheVariants as place
use Rattle.rly_plan_syntax.specs.declared.key_path.Row.{Row}
use Rattle.rly_plan_syntax.specs.declared.key_path.Row.TheVariants as row
use Rattle.rly_plan_syntax.specs.declared.key_path.Spot.{Spot}
use Rattle.rly_plan_syntax.specs.declared.key_path.Spot.TheVariants as spot
use Rattle.rly_plan_syntax.specs.Draft.{contact_draft_of}
use Rattle.rly_plan_syntax.specs.Keys.{has_folder, keys_of}
use Rattle.rly_plan_syntax.specs.PathText.{key_text, place_text, row_text}

-- ---- the value there

-- a number, "rest", a contact, or the type of the value
abbrev pub items_count : Items → ℕ
items_count no_items = 0
items_count (item value rest) = suc (items_count rest)

abbrev pub string_text : List ℕ → List ℕ
string_text text = if bytes_eq text (codes "rest") then codes "\"rest\"" else codes "a value of type string"

abbrev pub plain_text : Data → List ℕ
plain_text (integer z) = signed_decimal z
plain_text (string text) = string_text text
plain_text (array items) = codes "an array of " ++ decimal (items_count items)
plain_text value = codes "a value of type " ++ type_name value

abbrev pub contact_or : Data → Option ContactDraft → List ℕ
contact_or value None = plain_text value
contact_or value (Some c) = codes "[" ++ signed_decimal c.begin ++ codes ", " ++ signed_decimal c.end ++ codes "]"

abbrev pub value_text : Option Data → List ℕ
value_text None = codes "missing"
value_text (Some value) = contact_or value (contact_draft_of value)

-- the contact of a number
abbrev pub contact_there : Data → ℕ → Option Data
contact_there entry n = option_and_then (at (n - 1)) (get (codes "contacts") entry)

-- ---- the keys of a table, or of the plan itself

abbrev pub known_keys : Option Row → (folder : Bool) → List (List ℕ)
known_keys None folder = codes "station" ∷ codes "peer" ∷ codes "hop" ∷ codes "route" ∷ []
known_keys (Some row) folder = keys_of row folder

abbrev pub is_known : Option Row → (folder : Bool) → List ℕ → Bool
is_known row folder name = list_any (bytes_eq name) (known_keys row folder)

-- words with commas between them
abbrev pub listed : List (List ℕ) → List ℕ
listed [] = []
listed (word ∷ []) = word
listed (word ∷ next ∷ words) = word ++ codes ", " ++ listed (next ∷ words)

abbrev pub keys_text : Option Row → (folder : Bool) → List ℕ
keys_text row folder = listed (known_keys row folder)

-- the first name that isn't known
abbrev pub stranger : Option Row → (folder : Bool) → Members → List ℕ
stranger row folder no_members = []
stranger row folder (member name value rest) = if is_known row folder name then stranger row folder rest else name

-- a name that needs no quotes
abbrev pub is_bare : ℕ → Bool
is_bare b = is_ascii_alphanumeric b || ((b == 95) || (b == 45))

unfoldable pub is_plain : List ℕ → Bool
is_plain name = (nat_le 1 (length name) && nat_le (length name) 64) && list_all is_bare name

-- a key that isn't known, and those that are. A name that isn't plain isn't printed
abbrev pub unknown_text : (keys name : List ℕ) → List ℕ
unknown_text keys name =
    codes "unknown key" ++ ((if is_plain name then 32 ∷ name else []) ++ (codes "; write " ++ keys))

-- ---- what to write

abbrev pub limits_text : (least most : ℕ) → (unit : List ℕ) → List ℕ
limits_text least most unit = codes "; write " ++ decimal least ++ codes " to " ++ decimal most ++ unit

abbrev pub array_wanted : Row → List ℕ
array_wanted row.Peer = limits_text 1 MAX_PEERS (codes " tables [[peer]]")
array_wanted row.Hop = limits_text 1 MAX_HOPS (codes " tables [[hop]]")
array_wanted row.Route = codes "; write tables [[route]]"

-- a peer's folder has one destination, a route may have the rest
abbrev pub destination_unit : Row → List ℕ
destination_unit row.Route = codes ", or \"rest\""
destination_unit _ = []

-- at a key of a table of this number, in a plan of so many hops
abbrev pub key_wanted : Row → (number hops : ℕ) → PlanKey → List ℕ
key_wanted row number hops key.Id = codes "; write " ++ decimal number
key_wanted row number hops key.Station = limits_text 1 65535 []
key_wanted row number hops key.Listen = codes "; write an address with a port, such as \"0.0.0.0:4001\""
key_wanted row number hops key.Remote = codes "; write an address with a port, such as \"10.0.0.3:4001\""
key_wanted row number hops key.Key = codes "; write the path of a key's file, such as \"link.key\""
key_wanted row number hops key.Resend = limits_text MIN_RESEND MAX_RESEND (codes " (milliseconds)")
key_wanted row number hops key.Rate = limits_text 1 1000000000 (codes " (bytes a second)")
key_wanted row number hops key.Lead = limits_text 0 86400 (codes " (seconds)")
key_wanted row number hops key.Contacts =
    codes "; write an array of at most " ++ decimal MAX_CONTACTS ++ codes " contacts [BEGIN, END]"
key_wanted row number hops key.Destination = limits_text 1 65535 (destination_unit row)
key_wanted row number hops key.Hop = limits_text 1 hops (codes ", the id of a hop")
key_wanted row number hops key.Folder = codes "; write the path of a folder, such as \"out\""
key_wanted row number hops key.Limit = limits_text 1 1099511627 (codes " (milliseconds)")
key_wanted row number hops key.Most = limits_text 1 1000000 (codes " (files)")

abbrev pub contact_wanted : List ℕ
contact_wanted =
    codes "; write [BEGIN, END] in microseconds since 1970, 0 <= BEGIN < END < " ++ decimal MOMENT_LIMIT

-- the number of the items, if there are some
abbrev pub count_in : Option Items → ℕ
count_in None = 0
count_in (Some items) = items_count items

abbrev pub count_of : Option Data → ℕ
count_of found = count_in (option_and_then as_array found)

-- ---- a number that occurs twice

-- the number that no other table is to have: 0 for "rest"
abbrev pub number_there : Option Data → ℤ
number_there (Some (integer z)) = z
number_there _ = pos 0

-- the number of the first table after number `after` that has this one at the key: tables count from n. 0: there is none
abbrev pub twin : (key : List ℕ) → ℤ → (after n : ℕ) → Items → ℕ
twin key number after n no_items = 0
twin key number after n (item entry rest) =
    if nat_lt after n && int_eq (number_there (get key entry)) number then n else twin key number after (n + 1) rest

abbrev pub twin_in : (key : List ℕ) → ℤ → (after : ℕ) → Option Items → ℕ
twin_in key number after None = 0
twin_in key number after (Some tables) = twin key number after 1 tables

-- ---- what is said

-- two contacts, or two tables, aren't allowed beside one another
abbrev pub is_conflict : Refusal → Bool
is_conflict Unsorted = true
is_conflict Overlap = true
is_conflict _ = false

-- the other table with the same at a key
abbrev pub twin_place : Members → Row → ℕ → PlanKey → Option Data → KeyPath
twin_place ms row number key value =
    let tables = option_and_then as_array (get_member (row_text row) ms) in
    place.In row (twin_in (key_text key) (number_there value) number tables) (spot.At key)

abbrev pub key_advice : Refusal → Members → Row → ℕ → PlanKey → Option Data → List ℕ
key_advice refusal ms row number key value =
    value_text value
    ++ (if is_conflict refusal
    then codes ", the same as " ++ place_text (twin_place ms row number key value) ++ codes "; write another"
    else key_wanted row number (count_of (get_member (codes "hop") ms)) key)

-- a contact begins before the one before it ends
abbrev pub before_text : Option Data → List ℕ
before_text before = codes " begins before " ++ value_text before ++ codes " ends; write contacts in order"

abbrev pub order_advice : Data → ℕ → List ℕ
order_advice entry n = value_text (contact_there entry n) ++ before_text (contact_there entry (n - 1))

abbrev pub contact_advice : Refusal → Data → ℕ → List ℕ
contact_advice refusal entry n =
    if is_conflict refusal then order_advice entry n else value_text (contact_there entry n) ++ contact_wanted

-- a key that isn't known, or an item that is no table
abbrev pub table_advice : Row → Data → Option Members → List ℕ
table_advice row value None = value_text (Some value) ++ codes "; write a table [[" ++ row_text row ++ codes "]]"
table_advice row value (Some ms) =
    unknown_text (keys_text (Some row) (has_folder ms)) (stranger (Some row) (has_folder ms) ms)

abbrev pub whole_advice : Row → Data → List ℕ
whole_advice row value = table_advice row value (as_table value)

abbrev pub spot_advice : Refusal → Members → Row → ℕ → Data → Spot → List ℕ
spot_advice refusal ms row number entry spot.Whole = whole_advice row entry
spot_advice refusal ms row number entry (spot.Contact n) = contact_advice refusal entry n
spot_advice refusal ms row number entry (spot.At key) =
    let folder = is_some (get (codes "folder") entry) in
    if is_known (Some row) folder (key_text key) then key_advice refusal ms row number key (get (key_text key) entry)
    else unknown_text (keys_text (Some row) folder) (key_text key)

abbrev pub item_advice : Refusal → Members → Row → ℕ → Spot → Option Data → List ℕ
item_advice refusal ms row number spot None = codes "missing"
item_advice refusal ms row number spot (Some entry) = spot_advice refusal ms row number entry spot

abbrev pub place_advice : Refusal → Members → KeyPath → List ℕ
place_advice refusal ms (place.Text position) = codes "not TOML from here on"
place_advice refusal ms place.Plan = unknown_text (keys_text None false) (stranger None false ms)
place_advice refusal ms place.Station = value_text (get_member (codes "station") ms) ++ limits_text 1 65535 []
place_advice refusal ms (place.Array row) = value_text (get_member (row_text row) ms) ++ array_wanted row
place_advice refusal ms (place.In row number spot) =
    item_advice refusal ms row number spot (option_and_then (at (number - 1)) (get_member (row_text row) ms))

-- of a text that TOML refuses there is one thing to say
abbrev pub document_advice : Refusal → Option Members → KeyPath → List ℕ
document_advice refusal None place = codes "not TOML from here on"
document_advice refusal (Some ms) place = place_advice refusal ms place

unfoldable pub plan_advice : (text : List ℕ) → Refusal → KeyPath → List ℕ
plan_advice text refusal place = document_advice refusal (parse_document text) place
