-- What differs between two plans, as lines (docs/COMMANDS.md, "rly plan"): the location, the value in the old plan, and that
-- in the new one.
use Rattle.std.specs.Prelude.{ℕ, zero, suc, ◌+◌, ◌*◌, ◌==◌, min, max, Bool, true, false, List, [], ◌∷◌, ◌++◌, codes, length}
use Rattle.std.specs.Prelude.{Option, Some, None, option_map, unwrap_or, find, is_some, if◌then◌else◌}
use Rattle.std.specs.Fmt.{decimal}
use Rattle.std.specs.List.{enumerate_from, flat_map, range_with_len}
use Rattle.std.specs.Str.{bytes_eq}
use Rattle.rly_plan_syntax.specs.PathText.{place_text}
use Rattle.rly_plan_syntax.specs.declared.key_path.KeyPath.{KeyPath}
use Rattle.rly_plan_syntax.specs.declared.key_path.KeyPath.TheVariants.{In}
use Rattle.rly_plan_syntax.specs.declared.key_path.KeyPath.TheVariants as place
use Rattle.rly_plan_syntax.specs.declared.key_path.PlanKey.{PlanKey}
use Rattle.rly_plan_syntax.specs.declared.key_path.PlanKey.TheVariants as key
use Rattle.rly_plan_syntax.specs.declared.key_path.Row.{Row}
use Rattle.rly_plan_syntax.specs.declared.key_path.Row.TheVariants as row
use Rattle.rly_plan_syntax.specs.declared.key_path.Spot.TheVariants.{At, Whole}
use Rattle.rly_plan.specs.Changes.{change_after}
use Rattle.rly_plan.specs.ContactPlan.{ContactPlan, at_number}
use Rattle.rly_plan.specs.LinkClock.{lies_in_any}
use Rattle.rly_plan.specs.declared.contacts.Contact.{Contact}
use Rattle.rly_plan.specs.declared.far_end.FarEnd.{FarEnd}
use Rattle.rly_plan.specs.declared.far_end.FarEnd.TheVariants.{Folder, Socket}
use Rattle.rly_plan.specs.declared.neighbour.Neighbour.{Neighbour}
use Rattle.rly_plan.specs.declared.plan.NextHop.{NextHop}
use Rattle.rly_plan.specs.declared.route.Destination.{Destination}
use Rattle.rly_plan.specs.declared.route.Destination.TheVariants.{Rest, Station}
use Rattle.rly_plan.specs.declared.route.Route.{Route}
use Rattle.rly_plan_changes.specs.PlanIds.{Ids, ids_of}

-- LOCATION: OLD -> NEW
abbrev pub change_line : KeyPath → (old new : List ℕ) → List ℕ
change_line place old new = place_text place ++ codes ": " ++ old ++ codes " -> " ++ new ++ 10 ∷ []

abbrev pub none_text : List ℕ
none_text = codes "none"

-- ---- a text or a number at a key, if it is there

abbrev pub text_or_none : Option (List ℕ) → List ℕ
text_or_none None = none_text
text_or_none (Some text) = text

abbrev pub same_text : Option (List ℕ) → Option (List ℕ) → Bool
same_text None None = true
same_text (Some old) (Some new) = bytes_eq old new
same_text _ _ = false

abbrev pub text_change : KeyPath → Option (List ℕ) → Option (List ℕ) → List ℕ
text_change place old new =
    if same_text old new then [] else change_line place (text_or_none old) (text_or_none new)

abbrev pub number_or_none : Option ℕ → List ℕ
number_or_none None = none_text
number_or_none (Some number) = decimal number

abbrev pub same_number : Option ℕ → Option ℕ → Bool
same_number None None = true
same_number (Some old) (Some new) = old == new
same_number _ _ = false

abbrev pub number_change : KeyPath → Option ℕ → Option ℕ → List ℕ
number_change place old new =
    if same_number old new then [] else change_line place (number_or_none old) (number_or_none new)

abbrev pub at_key : Row → ℕ → PlanKey → KeyPath
at_key row number key = In row number (At key)

-- ---- the stations of ids

-- an id of both plans says if it names another station; one of a single plan was dropped, or is new
abbrev pub noted_line : KeyPath → (old new : ℕ) → (note : List ℕ) → List ℕ
noted_line place old new note =
    place_text place ++ codes ": " ++ decimal old ++ codes " -> " ++ decimal new ++ codes ": " ++ note ++ 10 ∷ []

abbrev pub station_line : KeyPath → (old new : ℕ) → List ℕ
station_line place old new = if old == new then [] else noted_line place old new (codes "the id names another station")

abbrev pub id_line : KeyPath → Option ℕ → Option ℕ → List ℕ
id_line place None None = []
id_line place (Some old) None = number_change place (Some old) None
id_line place None (Some new) = number_change place None (Some new)
id_line place (Some old) (Some new) = station_line place old new

abbrev pub id_at : Row → (old new : List ℕ) → ℕ → List ℕ
id_at row old new number = id_line (at_key row number key.Station) (at_number old number) (at_number new number)

abbrev pub id_lines : Row → (old new : List ℕ) → List ℕ
id_lines row old new = flat_map (id_at row old new) (range_with_len 1 (max (length old) (length new)))

-- ---- the link of a neighbour

abbrev pub text_at : FarEnd → PlanKey → Option (List ℕ)
text_at (Socket socket) key.Listen = Some socket.addresses.listen
text_at (Socket socket) key.Remote = Some socket.addresses.remote
text_at (Socket socket) key.Key = socket.key
text_at (Folder folder) key.Folder = Some folder.path
text_at _ _ = None

abbrev pub number_at : FarEnd → PlanKey → Option ℕ
number_at (Folder folder) key.Destination = folder.destination
number_at (Folder folder) key.Limit = folder.limit
number_at (Folder folder) key.Most = Some folder.most
number_at _ _ = None

abbrev pub text_change_at : Row → ℕ → FarEnd → FarEnd → PlanKey → List ℕ
text_change_at row number old new key = text_change (at_key row number key) (text_at old key) (text_at new key)

abbrev pub number_change_at : Row → ℕ → FarEnd → FarEnd → PlanKey → List ℕ
number_change_at row number old new key = number_change (at_key row number key) (number_at old key) (number_at new key)

abbrev pub far_texts : Row → ℕ → FarEnd → FarEnd → List ℕ
far_texts row number old new =
    text_change_at row number old new key.Listen ++ text_change_at row number old new key.Remote
    ++ text_change_at row number old new key.Key ++ text_change_at row number old new key.Folder

abbrev pub far_numbers : Row → ℕ → FarEnd → FarEnd → List ℕ
far_numbers row number old new =
    number_change_at row number old new key.Destination ++ number_change_at row number old new key.Limit
    ++ number_change_at row number old new key.Most

abbrev pub far_changes : Row → ℕ → FarEnd → FarEnd → List ℕ
far_changes row number old new = far_texts row number old new ++ far_numbers row number old new

-- of the peer of an id, if the other plan has that id too
abbrev pub peer_changes : List Neighbour → ℕ × Neighbour → List ℕ
peer_changes new (number, peer) =
    unwrap_or (option_map (λ (now : Neighbour). far_changes row.Peer number peer.far now.far) (at_number new number)) []

-- ---- the contacts of a hop

-- the earlier of two moments, if there are any
abbrev pub earlier : Option ℕ → Option ℕ → Option ℕ
earlier None other = other
earlier (Some moment) None = Some moment
earlier (Some moment) (Some other) = Some (min moment other)

-- the next opening or closing of a link by either of two plans
abbrev pub next_change : List Contact → List Contact → ℕ → Option ℕ
next_change old new moment = earlier (change_after old moment) (change_after new moment)

-- LOCATION: from MOMENT until MOMENT: CHANGE
abbrev pub change_between : KeyPath → (from until : ℕ) → (change : List ℕ) → List ℕ
change_between place from until change =
    place_text place ++ codes ": from " ++ decimal from ++ codes " until " ++ decimal until ++ codes ": " ++ change ++ 10 ∷ []

abbrev pub contacts_at : ℕ → KeyPath
contacts_at number = at_key row.Hop number key.Contacts

-- the link is open from a moment until another by one of the two plans alone
abbrev pub stretch_line : ℕ → (old new : Bool) → (from until : ℕ) → List ℕ
stretch_line number true false from until = change_between (contacts_at number) from until (codes "open -> closed")
stretch_line number false true from until = change_between (contacts_at number) from until (codes "closed -> open")
stretch_line number old new from until = []

-- of the moments from one on, in at most n stretches, in each of which both plans keep the link as it is
abbrev pub stretches_then : ℕ → List Contact → List Contact → (from : ℕ) → (ℕ → List ℕ) → Option ℕ → List ℕ
stretches_then number old new from later None = []
stretches_then number old new from later (Some until) =
    stretch_line number (lies_in_any old from) (lies_in_any new from) from until ++ later until

unfoldable pub stretches : ℕ → List Contact → List Contact → (n : ℕ) → (from : ℕ) → List ℕ
stretches number old new zero from = []
stretches number old new (suc n) from =
    stretches_then number old new from (stretches number old new n) (next_change old new from)

-- how many contacts there are, and when the link is open by one plan alone: each contact opens and closes it at most once
abbrev pub contact_changes : ℕ → List Contact → List Contact → List ℕ
contact_changes number old new =
    number_change (contacts_at number) (Some (length old)) (Some (length new))
    ++ stretches number old new ((length old + length new) * 2) 0

-- ---- a hop

abbrev pub hop_numbers : ℕ → NextHop → NextHop → List ℕ
hop_numbers number old new =
    number_change (at_key row.Hop number key.Resend) (Some old.resend) (Some new.resend)
    ++ number_change (at_key row.Hop number key.Rate) old.rate new.rate
    ++ number_change (at_key row.Hop number key.Lead) (Some old.lead) (Some new.lead)

abbrev pub hop_change : ℕ → NextHop → NextHop → List ℕ
hop_change number old new =
    far_changes row.Hop number old.neighbour.far new.neighbour.far ++ hop_numbers number old new
    ++ contact_changes number old.contacts new.contacts

-- of the hop of an id, if the other plan has that id too
abbrev pub hop_changes : List NextHop → ℕ × NextHop → List ℕ
hop_changes new (number, hop) =
    unwrap_or (option_map (λ (now : NextHop). hop_change number hop now) (at_number new number)) []

-- ---- routes, by their destinations

abbrev pub same_destination : Destination → Destination → Bool
same_destination (Station station) (Station other) = station == other
same_destination Rest Rest = true
same_destination _ _ = false

abbrev pub hop_of : List Route → Destination → Option ℕ
hop_of routes destination = option_map (λ (r : Route). r.hop.0) (find (λ (r : Route). same_destination r.destination destination) routes)

abbrev pub destination_text : Destination → List ℕ
destination_text (Station station) = decimal station
destination_text Rest = codes "rest"

abbrev pub route_text : Route → List ℕ
route_text r = codes "destination " ++ destination_text r.destination ++ codes " hop " ++ decimal r.hop.0

-- a route that was dropped; its number is that of the old plan
abbrev pub dropped_route : List Route → ℕ × Route → List ℕ
dropped_route new (number, r) =
    if is_some (hop_of new r.destination) then [] else change_line (In row.Route number Whole) (route_text r) none_text

-- a route that is new, or leads to another hop; its number is that of the new plan
abbrev pub route_against : ℕ → Route → Option ℕ → List ℕ
route_against number r None = change_line (In row.Route number Whole) none_text (route_text r)
route_against number r (Some hop) =
    if hop == r.hop.0 then [] else change_line (at_key row.Route number key.Hop) (decimal hop) (decimal r.hop.0)

abbrev pub route_change : List Route → ℕ × Route → List ℕ
route_change old (number, r) = route_against number r (hop_of old r.destination)

abbrev pub route_changes : List Route → List Route → List ℕ
route_changes old new =
    flat_map (dropped_route new) (enumerate_from 1 old) ++ flat_map (route_change old) (enumerate_from 1 new)

-- ---- all

abbrev pub ids_lines : Ids → Ids → List ℕ
ids_lines old new = id_lines row.Peer old.peers new.peers ++ id_lines row.Hop old.hops new.hops

-- the plan's own station, the stations of ids, and then peers, hops and routes
abbrev pub plan_changes : ContactPlan → ContactPlan → List ℕ
plan_changes old new =
    number_change place.Station (Some old.station) (Some new.station)
    ++ ids_lines (ids_of old) (ids_of new)
    ++ flat_map (peer_changes new.peers) (enumerate_from 1 old.peers)
    ++ flat_map (hop_changes new.hops) (enumerate_from 1 old.hops)
    ++ route_changes old.routes new.routes
