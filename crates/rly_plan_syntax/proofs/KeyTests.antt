-- Each key is known iff the pass over the keys locates no fault.
use Rattle.std.proofs.Common.{◌≡◌, ℕ, ◌+◌, Bool, true, false, ◌&&◌, if◌then◌else◌, List, codes, Option, is_none, refl}
use Rattle.std.specs.Str.{bytes_eq}
use Rattle.toml.specs.Data.{Data, array, table, Items, no_items, item, Members, no_members, member}
use Rattle.rly_plan_syntax.specs.declared.key_path.KeyPath.TheVariants as place
use Rattle.rly_plan_syntax.specs.declared.key_path.Row.{Row}
use Rattle.rly_plan_syntax.specs.declared.key_path.Row.TheVariants as row
use Rattle.rly_plan_syntax.specs.declared.key_path.Spot.TheVariants as spot
use Rattle.rly_plan_syntax.specs.DocumentPaths.{first_item, item_unknown, row_unknown, rows_unknown, spot_named, unknown_place, value_unknown}
use Rattle.rly_plan_syntax.specs.Keys.{has_folder, has_key, has_no_key, is_known, item_is_known, items_are_known, keys_are_known, row_is_known, rows_are_known}
use Rattle.rly_plan_syntax.proofs.NoPath.{none_map, none_or, none_unless}

none_in_row : (row : Row) (folder : Bool) (ms : Members) → is_none (row_unknown row folder ms) ≡ row_is_known row folder ms
none_in_row row folder no_members = refl
none_in_row row folder (member name value rest) =
    none_or _ _ _ _ (none_unless (has_key row folder name && has_no_key value) (spot_named name)) (none_in_row row folder rest)

none_in_item : (row : Row) (value : Data) → is_none (item_unknown row value) ≡ item_is_known row value
none_in_item row (table members) = none_in_row row (has_folder members) members
none_in_item row value = none_unless (has_no_key value) spot.Whole

none_in_items : (row : Row) (n : ℕ) (items : Items) → is_none (first_item (item_unknown row) row n items) ≡ items_are_known row items
none_in_items row n no_items = refl
none_in_items row n (item value rest) =
    none_or _ _ _ _ (none_map (place.In row n) (item_unknown row value) _ (none_in_item row value)) (none_in_items row (n + 1) rest)

none_in_rows : (row : Row) (value : Data) → is_none (rows_unknown row value) ≡ rows_are_known row value
none_in_rows row (array items) = none_in_items row 1 items
none_in_rows row value = none_unless (has_no_key value) (place.Array row)

none_if : {A : Type 0} (b : Bool) (x y : Option A) (c d : Bool) → is_none x ≡ c → is_none y ≡ d → is_none (if b then x else y) ≡ (if b then c else d)
none_if true x y c d p q = p
none_if false x y c d p q = q

none_in_value : (name : List ℕ) (value : Data) → is_none (value_unknown name value) ≡ is_known name value
none_in_value name value =
    none_if (bytes_eq name (codes "station")) _ _ _ _ (none_unless (has_no_key value) place.Station)
    (none_if (bytes_eq name (codes "peer")) _ _ _ _ (none_in_rows row.Peer value)
    (none_if (bytes_eq name (codes "hop")) _ _ _ _ (none_in_rows row.Hop value)
    (none_if (bytes_eq name (codes "route")) _ _ _ _ (none_in_rows row.Route value) refl)))

pub none_unknown : (ms : Members) → is_none (unknown_place ms) ≡ keys_are_known ms
none_unknown no_members = refl
none_unknown (member name value rest) =
    none_or (value_unknown name value) (unknown_place rest) (is_known name value) (keys_are_known rest) (none_in_value name value) (none_unknown rest)
