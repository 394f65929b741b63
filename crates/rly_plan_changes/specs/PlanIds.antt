-- The stations that ids name: of a plan, and kept of a device (docs/FORMATS.md, "The ids of a device").
use Rattle.std.specs.Prelude.{ℕ, ◌+◌, ◌==◌, nat_le, Bool, true, false, ◌&&◌, if◌then◌else◌, List, [], ◌∷◌, ◌++◌, codes, drop, length, map}
use Rattle.std.specs.Prelude.{ℤ, pos, negsuc, Option, Some, None, option_and_then, Result, Ok, Err}
use Rattle.std.specs.Fmt.{decimal}
use Rattle.std.specs.List.{flat_map}
use Rattle.std.specs.Option.{option_or}
use Rattle.toml.specs.Data.{Data, Members, as_integer, get_member}
use Rattle.toml.specs.Parse.{parse_document}
use Rattle.rly_plan_syntax.specs.Draft.{items_at}
use Rattle.rly_plan_syntax.specs.PathText.{row_text}
use Rattle.rly_plan_syntax.specs.declared.key_path.Row.{Row}
use Rattle.rly_plan_syntax.specs.declared.key_path.Row.TheVariants.{Hop, Peer}
use Rattle.rly_plan.specs.ContactPlan.{ContactPlan}
use Rattle.rly_plan.specs.declared.neighbour.Neighbour.{Neighbour}
use Rattle.rly_plan.specs.declared.plan.NextHop.{NextHop}
use Rattle.rly_plan_changes.specs.declared.kept_ids.IdsFault.{IdsFault}
use Rattle.rly_plan_changes.specs.declared.kept_ids.IdsFault.TheVariants.{Broken, Renumbered}
use Rattle.rly_plan_changes.specs.declared.plan_ids.OtherStation.{OtherStation}

-- the station of each id, in the order of the ids
pub record Ids : Type 0 where
  pub peers : List ℕ
  pub hops : List ℕ

abbrev pub station_of_peer : Neighbour → ℕ
station_of_peer peer = peer.station

abbrev pub station_of_hop : NextHop → ℕ
station_of_hop hop = hop.neighbour.station

abbrev pub ids_of : ContactPlan → Ids
ids_of plan = record { peers = map station_of_peer plan.peers; hops = map station_of_hop plan.hops }

-- the first id, counting from n, of two lists of stations that names another one in the second
abbrev pub first_other : Row → ℕ → List ℕ → List ℕ → Option OtherStation
first_other row n [] new = None
first_other row n (was ∷ old) [] = None
first_other row n (was ∷ old) (now ∷ new) =
    if was == now then first_other row (n + 1) old new else Some (record { row = row; id = n; was = was; now = now })

-- the same of two plans or devices, peers before hops. An id that only one of them has names no other station
abbrev pub other_station : Ids → Ids → Option OtherStation
other_station old new = option_or (first_other Peer 1 old.peers new.peers) (first_other Hop 1 old.hops new.hops)

-- "hop 2 named station 9, and names station 10"
abbrev pub other_text : OtherStation → List ℕ
other_text other =
    row_text other.row ++ codes " " ++ decimal other.id ++ codes " named station " ++ decimal other.was
    ++ codes ", and names station " ++ decimal other.now

-- ---- the ids that are kept of a device

-- the stations, and of the kept ones those of the ids after them
abbrev pub later : (kept stations : List ℕ) → List ℕ
later kept stations = stations ++ drop (length stations) kept

-- the ids of a plan, and the kept ones of ids that it doesn't have
abbrev pub kept_after : Ids → Ids → Ids
kept_after kept now = record { peers = later kept.peers now.peers; hops = later kept.hops now.hops }

-- their text: a comment, and an array of each, with a line for each station
abbrev pub station_line : ℕ → List ℕ
station_line station = codes "  " ++ decimal station ++ codes "," ++ 10 ∷ []

abbrev pub array_text : List ℕ → List ℕ → List ℕ
array_text name stations = name ++ codes " = [" ++ 10 ∷ flat_map station_line stations ++ codes "]" ++ 10 ∷ []

abbrev pub ids_text : Ids → List ℕ
ids_text ids =
    codes "# The station of each id. `rly serve` keeps them; docs/FORMATS.md says how." ++ 10
    ∷ array_text (codes "peers") ids.peers ++ array_text (codes "hops") ids.hops

infixl 10 ◌>>=◌
abbrev ◌>>=◌ : {A B : Type 0} → Option A → (A → Option B) → Option B
o >>= f = option_and_then f o

-- a station's number
abbrev pub station_number : ℤ → Option ℕ
station_number (pos n) = if nat_le 1 n && nat_le n 65535 then Some n else None
station_number (negsuc n) = None

abbrev pub station_in : Data → Option ℕ
station_in value = as_integer value >>= station_number

abbrev pub ids_in : Members → Option Ids
ids_in ms = do
  peers ← items_at station_in (get_member (codes "peers") ms)
  hops ← items_at station_in (get_member (codes "hops") ms)
  Some (record { peers = peers; hops = hops })

-- the ids that a text gives: none if TOML refuses it, or it lacks an array of stations
abbrev pub ids_in_text : List ℕ → Option Ids
ids_in_text text = parse_document text >>= ids_in

abbrev pub unless_other : Option OtherStation → Ids → Result Ids IdsFault
unless_other None ids = Ok ids
unless_other (Some other) ids = Err (Renumbered other)

abbrev pub kept_with : Option Ids → Ids → Bool → Result Ids IdsFault
kept_with None now renumber = Err Broken
kept_with (Some kept) now true = Ok (kept_after kept now)
kept_with (Some kept) now false = unless_other (other_station kept now) (kept_after kept now)

-- What is kept of a device next, by the text kept so far and a plan: a plan in which an id names another station is
-- refused unless that is allowed.
abbrev pub ids_to_keep : Option (List ℕ) → ContactPlan → (renumber : Bool) → Result Ids IdsFault
ids_to_keep None plan renumber = Ok (ids_of plan)
ids_to_keep (Some text) plan renumber = kept_with (ids_in_text text) (ids_of plan) renumber
