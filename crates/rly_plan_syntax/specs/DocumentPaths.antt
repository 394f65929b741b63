-- The location of the first fault of a plan's text in passes 1 to 3, before its numbers are checked
-- (docs/FORMATS.md, "The plan"). Tables and contacts count from 1.
use Rattle.std.specs.Prelude.{ℕ, ◌+◌, ◌==◌, nat_le, List, [], ◌∷◌, codes}
use Rattle.std.specs.Prelude.{Bool, ◌&&◌, ◌||◌, if◌then◌else◌, is_some, Option, Some, None, option_map}
use Rattle.std.specs.Option.{option_or}
use Rattle.std.specs.Str.{bytes_eq}
use Rattle.toml.specs.Data.{Data, array, table, Items, no_items, item, Members, no_members, member, get_member}
use Rattle.rly_plan_syntax.specs.declared.key_path.PlanKey.{PlanKey}
use Rattle.rly_plan_syntax.specs.declared.key_path.PlanKey.TheVariants as key
use Rattle.rly_plan_syntax.specs.declared.key_path.KeyPath.{KeyPath}
use Rattle.rly_plan_syntax.specs.declared.key_path.KeyPath.TheVariants as place
use Rattle.rly_plan_syntax.specs.declared.key_path.Position.{Position}
use Rattle.rly_plan_syntax.specs.declared.key_path.Row.{Row}
use Rattle.rly_plan_syntax.specs.declared.key_path.Row.TheVariants as row
use Rattle.rly_plan_syntax.specs.declared.key_path.Spot.{Spot}
use Rattle.rly_plan_syntax.specs.declared.key_path.Spot.TheVariants as spot
use Rattle.rly_plan_syntax.specs.Draft.{contact_draft_of, destination_in, integer_at, optional_number, optional_text, text_at}
use Rattle.rly_plan_syntax.specs.Keys.{has_folder, has_key, has_no_key}

-- the location, unless the test passes
abbrev pub unless : {A : Type 0} → Bool → A → Option A
unless passed at = if passed then None else Some at

-- ---- pass 1: a position in the text

-- the byte begins a character of UTF-8
abbrev pub begins_character : ℕ → Bool
begins_character byte = nat_le byte 127 || nat_le 192 byte

-- the position after a byte: a newline starts a line, and a character's first byte moves one column on
abbrev pub after_byte : Position → ℕ → Position
after_byte at byte =
    if byte == 10 then record { line = at.line + 1; column = 1 }
    else if begins_character byte then record { line = at.line; column = at.column + 1 }
    else at

abbrev pub after_bytes : Position → List ℕ → Position
after_bytes at [] = at
after_bytes at (byte ∷ bytes) = after_bytes (after_byte at byte) bytes

-- the position after the bytes of a text
abbrev pub position_after : List ℕ → Position
position_after bytes = after_bytes (record { line = 1; column = 1 }) bytes

-- ---- pass 2: a key that isn't known in its table

-- the spot of a key
abbrev pub spot_named : List ℕ → Spot
spot_named name =
    if bytes_eq name (codes "id") then spot.At key.Id
    else if bytes_eq name (codes "station") then spot.At key.Station
    else if bytes_eq name (codes "listen") then spot.At key.Listen
    else if bytes_eq name (codes "remote") then spot.At key.Remote
    else if bytes_eq name (codes "key") then spot.At key.Key
    else if bytes_eq name (codes "resend") then spot.At key.Resend
    else if bytes_eq name (codes "rate") then spot.At key.Rate
    else if bytes_eq name (codes "lead") then spot.At key.Lead
    else if bytes_eq name (codes "contacts") then spot.At key.Contacts
    else if bytes_eq name (codes "destination") then spot.At key.Destination
    else if bytes_eq name (codes "hop") then spot.At key.Hop
    else if bytes_eq name (codes "folder") then spot.At key.Folder
    else if bytes_eq name (codes "limit") then spot.At key.Limit
    else if bytes_eq name (codes "most") then spot.At key.Most
    else spot.Whole

abbrev pub row_unknown : Row → (folder : Bool) → Members → Option Spot
row_unknown row folder no_members = None
row_unknown row folder (member name value rest) =
    option_or (unless (has_key row folder name && has_no_key value) (spot_named name)) (row_unknown row folder rest)

abbrev pub item_unknown : Row → Data → Option Spot
item_unknown row (table members) = row_unknown row (has_folder members) members
item_unknown row value = unless (has_no_key value) spot.Whole

-- the first item of an array that has a fault, and where in it: items count from n
abbrev pub first_item : (Data → Option Spot) → Row → ℕ → Items → Option KeyPath
first_item fault row n no_items = None
first_item fault row n (item value rest) =
    option_or (option_map (place.In row n) (fault value)) (first_item fault row (n + 1) rest)

abbrev pub rows_unknown : Row → Data → Option KeyPath
rows_unknown row (array items) = first_item (item_unknown row) row 1 items
rows_unknown row value = unless (has_no_key value) (place.Array row)

abbrev pub value_unknown : List ℕ → Data → Option KeyPath
value_unknown name value =
    if bytes_eq name (codes "station") then unless (has_no_key value) place.Station
    else if bytes_eq name (codes "peer") then rows_unknown row.Peer value
    else if bytes_eq name (codes "hop") then rows_unknown row.Hop value
    else if bytes_eq name (codes "route") then rows_unknown row.Route value
    else Some place.Plan

-- a table yields its keys in the order of their bytes
abbrev pub unknown_place : Members → Option KeyPath
unknown_place no_members = None
unknown_place (member name value rest) = option_or (value_unknown name value) (unknown_place rest)

-- ---- pass 3: a key that is missing, or a value of another type

-- the spot of an optional key whose value is no whole number
abbrev pub unless_number : List ℕ → PlanKey → Members → Option Spot
unless_number name named ms = unless (is_some (optional_number (get_member name ms))) (spot.At named)

abbrev pub socket_lacks : Members → Option Spot
socket_lacks ms =
    option_or (unless (is_some (text_at (codes "listen") ms)) (spot.At key.Listen))
    (option_or (unless (is_some (text_at (codes "remote") ms)) (spot.At key.Remote))
    (unless (is_some (optional_text (get_member (codes "key") ms))) (spot.At key.Key)))

abbrev pub folder_lacks : Members → Option Spot
folder_lacks ms =
    option_or (unless (is_some (text_at (codes "folder") ms)) (spot.At key.Folder))
    (option_or (unless_number (codes "destination") key.Destination ms)
    (option_or (unless_number (codes "limit") key.Limit ms)
    (unless_number (codes "most") key.Most ms)))

abbrev pub neighbour_lacks : Members → Option Spot
neighbour_lacks ms =
    option_or (unless (is_some (integer_at (codes "id") ms)) (spot.At key.Id))
    (option_or (unless (is_some (integer_at (codes "station") ms)) (spot.At key.Station))
    (if has_folder ms then folder_lacks ms else socket_lacks ms))

-- the first item that isn't two whole numbers: items count from n
abbrev pub first_no_contact : ℕ → Items → Option Spot
first_no_contact n no_items = None
first_no_contact n (item value rest) =
    option_or (unless (is_some (contact_draft_of value)) (spot.Contact n)) (first_no_contact (n + 1) rest)

abbrev pub contacts_lack : Option Data → Option Spot
contacts_lack (Some (array items)) = first_no_contact 1 items
contacts_lack _ = Some (spot.At key.Contacts)

abbrev pub hop_lacks : Members → Option Spot
hop_lacks ms =
    option_or (neighbour_lacks ms)
    (option_or (unless_number (codes "resend") key.Resend ms)
    (option_or (unless_number (codes "rate") key.Rate ms)
    (option_or (unless_number (codes "lead") key.Lead ms)
    (contacts_lack (get_member (codes "contacts") ms)))))

abbrev pub route_lacks : Members → Option Spot
route_lacks ms =
    option_or (unless (is_some (destination_in ms)) (spot.At key.Destination))
    (unless (is_some (integer_at (codes "hop") ms)) (spot.At key.Hop))

abbrev pub table_lacks : Row → Members → Option Spot
table_lacks row.Peer ms = neighbour_lacks ms
table_lacks row.Hop ms = hop_lacks ms
table_lacks row.Route ms = route_lacks ms

abbrev pub item_lacks : Row → Data → Option Spot
item_lacks row (table ms) = table_lacks row ms
item_lacks row _ = Some spot.Whole

abbrev pub rows_lack : Row → Option Data → Option KeyPath
rows_lack row (Some (array items)) = first_item (item_lacks row) row 1 items
rows_lack row _ = Some (place.Array row)

abbrev pub routes_lack : Option Data → Option KeyPath
routes_lack None = None
routes_lack (Some value) = rows_lack row.Route (Some value)

abbrev pub missing_place : Members → Option KeyPath
missing_place ms =
    option_or (unless (is_some (integer_at (codes "station") ms)) place.Station)
    (option_or (rows_lack row.Peer (get_member (codes "peer") ms))
    (option_or (rows_lack row.Hop (get_member (codes "hop") ms))
    (routes_lack (get_member (codes "route") ms))))
