-- The warnings of a plan (docs/COMMANDS.md, "rly plan"): mistakes with which a text is a plan none the less.
use Rattle.std.specs.Prelude.{ℕ, ◌==◌, nat_lt, Bool, not, ◌&&◌, List, [], ◌∷◌, ◌++◌, codes, length, Option, Some, None}
use Rattle.std.specs.Prelude.{if◌then◌else◌, find, is_none, is_some}
use Rattle.std.specs.List.{enumerate_from, flat_map}
use Rattle.std.specs.Str.{bytes_eq}
use Rattle.rly_plan.specs.Changes.{change_after}
use Rattle.rly_plan.specs.ContactPlan.{ContactPlan, rest, rest_for}
use Rattle.rly_plan.specs.declared.contacts.Contact.{Contact}
use Rattle.rly_plan.specs.declared.far_end.FarEnd.{FarEnd}
use Rattle.rly_plan.specs.declared.far_end.FarEnd.TheVariants.{Folder, Socket}
use Rattle.rly_plan.specs.declared.neighbour.Neighbour.{Neighbour}
use Rattle.rly_plan.specs.declared.plan.NextHop.{NextHop}
use Rattle.rly_plan_show.specs.AddressForms.{are_two_families, has_port}
use Rattle.rly_plan_show.specs.declared.plan_warning.Mistake.{Mistake}
use Rattle.rly_plan_show.specs.declared.plan_warning.Mistake.TheVariants as mistake
use Rattle.rly_plan_show.specs.declared.plan_warning.PlanWarning.{PlanWarning}
use Rattle.rly_plan_syntax.specs.PathText.{place_text}
use Rattle.rly_plan_syntax.specs.declared.key_path.KeyPath.{KeyPath}
use Rattle.rly_plan_syntax.specs.declared.key_path.KeyPath.TheVariants.{In}
use Rattle.rly_plan_syntax.specs.declared.key_path.PlanKey.{PlanKey}
use Rattle.rly_plan_syntax.specs.declared.key_path.PlanKey.TheVariants as key
use Rattle.rly_plan_syntax.specs.declared.key_path.Row.{Row}
use Rattle.rly_plan_syntax.specs.declared.key_path.Row.TheVariants as row
use Rattle.rly_plan_syntax.specs.declared.key_path.Spot.TheVariants.{At}

-- ---- the text

abbrev pub mistake_text : Mistake → List ℕ
mistake_text mistake.OwnNumber = codes "this station's own number; write the neighbour's"
mistake_text mistake.NoPort = codes "no port, or port 0; write ADDRESS:PORT"
mistake_text (mistake.SameListen place) =
    codes "the same as " ++ place_text place ++ codes "; give each link a port of its own"
mistake_text mistake.TwoFamilies = codes "IPv4 beside IPv6; write listen and remote in one of them"
mistake_text mistake.LongAgo = codes "all end before the year 2000; write microseconds since 1970, not seconds"
mistake_text mistake.Past = codes "all are past; write later ones, or nothing goes out"
mistake_text mistake.RestLeadsBack =
    codes "\"rest\" leads back here: what this station gives without a route is refused (2); lead \"rest\" elsewhere"

abbrev pub warning_text : PlanWarning → List ℕ
warning_text w = codes "rly: plan: " ++ place_text w.place ++ codes ": " ++ mistake_text w.mistake

-- a line for each
abbrev pub warning_line : PlanWarning → List ℕ
warning_line w = warning_text w ++ 10 ∷ []

abbrev pub warning_lines : List PlanWarning → List ℕ
warning_lines warnings = flat_map warning_line warnings

-- ---- the warnings

abbrev pub warning_at : Row → ℕ → PlanKey → Mistake → PlanWarning
warning_at row number key mistake = record { place = In row number (At key); mistake = mistake }

abbrev pub warn_if : Bool → PlanWarning → List PlanWarning
warn_if is warning = if is then warning ∷ [] else []

-- a socket whose `listen` has no port, or whose addresses are of two families
abbrev pub far_warnings : Row → ℕ → FarEnd → List PlanWarning
far_warnings row number (Folder folder) = []
far_warnings row number (Socket socket) =
    warn_if (not (has_port socket.addresses.listen)) (warning_at row number key.Listen mistake.NoPort)
    ++ warn_if (are_two_families socket.addresses.listen socket.addresses.remote)
    (warning_at row number key.Remote mistake.TwoFamilies)

-- a neighbour with the station's own number, and its link
abbrev pub neighbour_warnings : (station : ℕ) → Row → ℕ → Neighbour → List PlanWarning
neighbour_warnings station row number neighbour =
    warn_if (neighbour.station == station) (warning_at row number key.Station mistake.OwnNumber)
    ++ far_warnings row number neighbour.far

-- the plan has a rest, and none for what that station gives
abbrev pub rest_leads_back : ContactPlan → ℕ → Bool
rest_leads_back plan station = is_some (rest plan) && is_none (rest_for plan station)

abbrev pub peer_warnings : ContactPlan → ℕ × Neighbour → List PlanWarning
peer_warnings plan (number, peer) =
    neighbour_warnings plan.station row.Peer number peer
    ++ warn_if (rest_leads_back plan peer.station) (warning_at row.Peer number key.Station mistake.RestLeadsBack)

-- there are contacts, and from the moment on none opens or closes: all are past
abbrev pub are_past : List Contact → ℕ → Bool
are_past contacts moment = nat_lt 0 (length contacts) && is_none (change_after contacts moment)

-- the first moment of the year 2000
abbrev pub year_2000 : ℕ
year_2000 = 946684800000000

abbrev pub contact_warnings : (moment : ℕ) → ℕ → List Contact → List PlanWarning
contact_warnings moment number contacts =
    if are_past contacts year_2000 then warning_at row.Hop number key.Contacts mistake.LongAgo ∷ []
    else warn_if (are_past contacts moment) (warning_at row.Hop number key.Contacts mistake.Past)

abbrev pub hop_warnings : ContactPlan → (moment : ℕ) → ℕ × NextHop → List PlanWarning
hop_warnings plan moment (number, hop) =
    neighbour_warnings plan.station row.Hop number hop.neighbour ++ contact_warnings moment number hop.contacts

-- the `listen` of a link, and its location
pub record Listening : Type 0 where
  pub place : KeyPath
  pub address : List ℕ

abbrev pub listen_at : Row → ℕ → FarEnd → List Listening
listen_at row number (Folder folder) = []
listen_at row number (Socket socket) =
    record { place = In row number (At key.Listen); address = socket.addresses.listen } ∷ []

abbrev pub listen_of_peer : ℕ × Neighbour → List Listening
listen_of_peer (number, peer) = listen_at row.Peer number peer.far

abbrev pub listen_of_hop : ℕ × NextHop → List Listening
listen_of_hop (number, hop) = listen_at row.Hop number hop.neighbour.far

abbrev pub listens : ContactPlan → List Listening
listens plan =
    flat_map listen_of_peer (enumerate_from 1 plan.peers) ++ flat_map listen_of_hop (enumerate_from 1 plan.hops)

-- the next one with the same address is warned of, by the location of the one before it
abbrev pub same_warning : KeyPath → Option Listening → List PlanWarning
same_warning place None = []
same_warning place (Some next) = record { place = next.place; mistake = mistake.SameListen place } ∷ []

abbrev pub same_listens : List Listening → List PlanWarning
same_listens [] = []
same_listens (l ∷ later) =
    same_warning l.place (find (λ (m : Listening). bytes_eq m.address l.address) later) ++ same_listens later

-- of each peer, of each hop, and of links that listen at one address
abbrev pub plan_warnings : ContactPlan → (moment : ℕ) → List PlanWarning
plan_warnings plan moment =
    flat_map (peer_warnings plan) (enumerate_from 1 plan.peers)
    ++ (flat_map (hop_warnings plan moment) (enumerate_from 1 plan.hops) ++ same_listens (listens plan))
