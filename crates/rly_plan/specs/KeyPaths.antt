-- The location of a plan's first fault, pass by pass (docs/FORMATS.md, "The plan"). Tables and contacts count from
-- 1. Passes 1 to 3 are in `rly_plan_syntax`.
use Rattle.std.specs.Prelude.{◌≡◌, ℕ, ◌+◌, ◌==◌, ◌≤◌, nat_le, List, [], ◌∷◌, map, length, take}
use Rattle.std.specs.Prelude.{Bool, not, ◌&&◌, if◌then◌else◌, Option, Some, None, option_map}
use Rattle.std.specs.Option.{option_or}
use Rattle.std.specs.List.{list_any}
use Rattle.toml.specs.Data.{Members}
use Rattle.toml.specs.Parse.{parse_document}
use Rattle.rly_core.specs.declared.limits.TheConstants.{MAX_CONTACTS, MAX_HOPS, MAX_PEERS}
use Rattle.rly_plan_syntax.specs.declared.draft.ContactDraft.{ContactDraft}
use Rattle.rly_plan_syntax.specs.declared.draft.NeighbourDraft.{NeighbourDraft}
use Rattle.rly_plan_syntax.specs.declared.far_end.FarEndDraft.{FarEndDraft}
use Rattle.rly_plan_syntax.specs.declared.far_end.FarEndDraft.TheVariants as draft
use Rattle.rly_plan_syntax.specs.declared.far_end.FolderDraft.{FolderDraft}
use Rattle.rly_plan_syntax.specs.declared.key_path.PlanKey.{PlanKey}
use Rattle.rly_plan_syntax.specs.declared.key_path.PlanKey.TheVariants as key
use Rattle.rly_plan_syntax.specs.declared.key_path.KeyPath.{KeyPath}
use Rattle.rly_plan_syntax.specs.declared.key_path.KeyPath.TheVariants as place
use Rattle.rly_plan_syntax.specs.declared.key_path.Row.{Row}
use Rattle.rly_plan_syntax.specs.declared.key_path.Row.TheVariants as row
use Rattle.rly_plan_syntax.specs.declared.key_path.Spot.{Spot}
use Rattle.rly_plan_syntax.specs.declared.key_path.Spot.TheVariants as spot
use Rattle.rly_plan_syntax.specs.declared.route.RouteDraft.{RouteDraft}
use Rattle.rly_plan_syntax.specs.DocumentPaths.{missing_place, position_after, unknown_place, unless}
use Rattle.rly_plan_syntax.specs.Draft.{HopText, PlanText, draft_of}
use Rattle.rly_plan_syntax.specs.Keys.{keys_are_known}
use Rattle.rly_plan.specs.Numbers.{is_between, is_given_between, is_station, number_16}
use Rattle.rly_plan.specs.Passes.{are_apart, begin_in_order, contact_in_range, destination_in_range, destination_number}
use Rattle.rly_plan.specs.Passes.{is_in_range, is_sorted}
use Rattle.rly_plan.specs.Passes.{lead_in_range, overlaps, rate_in_range, resend_in_range}

-- the first row that has a fault, and where in it: rows count from n
abbrev pub first_row : {A : Type 0} → (ℕ → A → Option Spot) → Row → ℕ → List A → Option KeyPath
first_row fault row n [] = None
first_row fault row n (x ∷ xs) = option_or (option_map (place.In row n) (fault n x)) (first_row fault row (n + 1) xs)

-- ---- pass 4: a number out of its range

abbrev pub folder_range_fault : FolderDraft → Option Spot
folder_range_fault f =
    option_or (unless (is_given_between 1 65535 f.destination) (spot.At key.Destination))
    (option_or (unless (is_given_between 1 1099511627 f.limit) (spot.At key.Limit))
    (unless (is_between 1 1000000 f.most) (spot.At key.Most)))

abbrev pub far_range_fault : FarEndDraft → Option Spot
far_range_fault (draft.Socket socket) = None
far_range_fault (draft.Folder folder) = folder_range_fault folder

abbrev pub neighbour_range_fault : ℕ → NeighbourDraft → Option Spot
neighbour_range_fault id n =
    option_or (unless (is_between id id n.id) (spot.At key.Id))
    (option_or (unless (is_station n.station) (spot.At key.Station)) (far_range_fault n.far))

-- the first contact that fails the test: contacts count from n
abbrev pub first_contact : (ContactDraft → Bool) → ℕ → List ContactDraft → Option Spot
first_contact test n [] = None
first_contact test n (c ∷ cs) = option_or (unless (test c) (spot.Contact n)) (first_contact test (n + 1) cs)

abbrev pub hop_range_fault : ℕ → HopText → Option Spot
hop_range_fault id h =
    option_or (neighbour_range_fault id h.neighbour)
    (option_or (unless (resend_in_range h.resend) (spot.At key.Resend))
    (option_or (unless (rate_in_range h.rate) (spot.At key.Rate))
    (option_or (unless (lead_in_range h.lead) (spot.At key.Lead))
    (option_or (unless (nat_le (length h.contacts) MAX_CONTACTS) (spot.At key.Contacts))
    (first_contact contact_in_range 1 h.contacts)))))

abbrev pub route_range_fault : ℕ → RouteDraft → Option Spot
route_range_fault n r =
    option_or (unless (destination_in_range r.destination) (spot.At key.Destination))
    (unless (is_between 1 MAX_HOPS r.hop) (spot.At key.Hop))

abbrev pub rows_range_fault : {A : Type 0} → (ℕ → A → Option Spot) → Row → ℕ → List A → Option KeyPath
rows_range_fault fault row most rows =
    option_or (unless (nat_le 1 (length rows) && nat_le (length rows) most) (place.Array row))
    (first_row fault row 1 rows)

abbrev pub range_place : PlanText → Option KeyPath
range_place d =
    option_or (unless (is_station d.station) place.Station)
    (option_or (rows_range_fault neighbour_range_fault row.Peer MAX_PEERS d.peers)
    (option_or (rows_range_fault hop_range_fault row.Hop MAX_HOPS d.hops)
    (first_row route_range_fault row.Route 1 d.routes)))

-- ---- passes 5 and 6: contacts out of order, or numbers that occur twice

-- the first contact that fails the test after the one before it, which is number n
abbrev pub first_adjacent : (ContactDraft → ContactDraft → Bool) → ℕ → List ContactDraft → Option Spot
first_adjacent test n [] = None
first_adjacent test n (x ∷ []) = None
first_adjacent test n (x ∷ y ∷ xs) =
    option_or (unless (test x y) (spot.Contact (n + 1))) (first_adjacent test (n + 1) (y ∷ xs))

abbrev pub order_fault : ℕ → HopText → Option Spot
order_fault n h = first_adjacent begin_in_order 1 h.contacts

abbrev pub sorted_place : PlanText → Option KeyPath
sorted_place d = first_row order_fault row.Hop 1 d.hops

abbrev pub apart_fault : ℕ → HopText → Option Spot
apart_fault n h = first_adjacent are_apart 1 h.contacts

-- the first number that occurs again later: numbers count from n
abbrev pub first_repeat : ℕ → List ℕ → Option ℕ
first_repeat n [] = None
first_repeat n (x ∷ xs) = if list_any (λ y. y == x) xs then Some n else first_repeat (n + 1) xs

-- the row of that number
abbrev pub repeat_place : Row → PlanKey → List ℕ → Option KeyPath
repeat_place row key numbers = option_map (λ n. place.In row n (spot.At key)) (first_repeat 1 numbers)

abbrev pub overlap_place : PlanText → Option KeyPath
overlap_place d =
    option_or (first_row apart_fault row.Hop 1 d.hops)
    (option_or (repeat_place row.Peer key.Station (map (λ p. number_16 p.station) d.peers))
    (option_or (repeat_place row.Hop key.Station (map (λ h. number_16 h.neighbour.station) d.hops))
    (repeat_place row.Route key.Destination (map (λ r. destination_number r.destination) d.routes))))

-- ---- pass 7: a route to a hop that doesn't exist

abbrev pub lead_fault : ℕ → ℕ → RouteDraft → Option Spot
lead_fault hops n r = unless (is_between 1 hops r.hop) (spot.At key.Hop)

abbrev pub lead_place : PlanText → Option KeyPath
lead_place d = first_row (lead_fault (length d.hops)) row.Route 1 d.routes

-- ---- the plan

-- passes 4 to 7
abbrev pub place_of_draft : PlanText → Option KeyPath
place_of_draft d =
    if not (is_in_range d) then range_place d
    else if not (is_sorted d) then sorted_place d
    else if overlaps d then overlap_place d
    else lead_place d

-- pass 3, and those after it
abbrev pub place_after_keys : Members → Option PlanText → Option KeyPath
place_after_keys ms None = missing_place ms
place_after_keys ms (Some d) = place_of_draft d

-- pass 2, and those after it
abbrev pub place_of_members : Members → Option KeyPath
place_of_members ms = if not (keys_are_known ms) then unknown_place ms else place_after_keys ms (draft_of ms)

-- the location of the first fault of a text; for a text that TOML refuses, some position in it
abbrev pub IsFaultPlace : List ℕ → Option Members → Option KeyPath → Type 0
IsFaultPlace text None at =
    (count : ℕ) × (count ≤ length text) × (at ≡ Some (place.Text (position_after (take count text))))
IsFaultPlace text (Some ms) at = at ≡ place_of_members ms

unfoldable pub IsPlaceOf : List ℕ → Option KeyPath → Type 0
IsPlaceOf text at = IsFaultPlace text (parse_document text) at
