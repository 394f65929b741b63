-- The text of a location in a plan (docs/FORMATS.md, "The plan").
use Rattle.std.specs.Prelude.{ℕ, List, [], ◌++◌, codes}
use Rattle.std.specs.Fmt.{decimal}
use Rattle.rly_plan_syntax.specs.declared.key_path.PlanKey.{PlanKey}
use Rattle.rly_plan_syntax.specs.declared.key_path.PlanKey.TheVariants as key
use Rattle.rly_plan_syntax.specs.declared.key_path.KeyPath.{KeyPath}
use Rattle.rly_plan_syntax.specs.declared.key_path.KeyPath.TheVariants as place
use Rattle.rly_plan_syntax.specs.declared.key_path.Row.{Row}
use Rattle.rly_plan_syntax.specs.declared.key_path.Row.TheVariants as row
use Rattle.rly_plan_syntax.specs.declared.key_path.Spot.{Spot}
use Rattle.rly_plan_syntax.specs.declared.key_path.Spot.TheVariants as spot

abbrev pub row_text : Row → List ℕ
row_text row.Peer = codes "peer"
row_text row.Hop = codes "hop"
row_text row.Route = codes "route"

abbrev pub key_text : PlanKey → List ℕ
key_text key.Id = codes "id"
key_text key.Station = codes "station"
key_text key.Listen = codes "listen"
key_text key.Remote = codes "remote"
key_text key.Key = codes "key"
key_text key.Resend = codes "resend"
key_text key.Rate = codes "rate"
key_text key.Lead = codes "lead"
key_text key.Contacts = codes "contacts"
key_text key.Destination = codes "destination"
key_text key.Hop = codes "hop"
key_text key.Folder = codes "folder"
key_text key.Limit = codes "limit"
key_text key.Most = codes "most"

abbrev pub spot_text : Spot → List ℕ
spot_text spot.Whole = []
spot_text (spot.At key) = codes "." ++ key_text key
spot_text (spot.Contact number) = codes ".contacts[" ++ decimal number ++ codes "]"

abbrev pub place_text : KeyPath → List ℕ
place_text (place.Text position) =
    codes "line " ++ decimal position.line ++ codes ", column " ++ decimal position.column
place_text place.Plan = codes "the top"
place_text place.Station = codes "station"
place_text (place.Array row) = row_text row
place_text (place.In row number spot) = row_text row ++ codes "[" ++ decimal number ++ codes "]" ++ spot_text spot
