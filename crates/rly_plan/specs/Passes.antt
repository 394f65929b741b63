-- The passes over a whole plan, in their order: the plan of a text, or the first fault (docs/FORMATS.md, "The plan").
use Rattle.std.specs.Prelude.{ℕ, ◌+◌, ◌-◌, ◌==◌, nat_le, ℤ, List, [], ◌∷◌, map, length}
use Rattle.std.specs.Prelude.{Bool, true, false, not, ◌&&◌, ◌||◌, if◌then◌else◌}
use Rattle.std.specs.Prelude.{Option, Some, None, option_map, Result, Ok, Err}
use Rattle.std.specs.List.{list_all, list_any}
use Rattle.toml.specs.Data.{Members}
use Rattle.toml.specs.Parse.{parse_document}
use Rattle.rly_core.specs.declared.limits.TheConstants.{MAX_CONTACTS, MAX_HOPS, MAX_PEERS, MAX_RESEND, MIN_RESEND}
use Rattle.rly_core.specs.declared.limits.TheConstants.{MOMENT_LIMIT}
use Rattle.rly_core.specs.declared.refusal.Refusal.{Refusal}
use Rattle.rly_core.specs.declared.refusal.Refusal.TheVariants.{Syntax, Unsorted, Overlap, Range, Unknown}
use Rattle.rly_plan.specs.declared.contacts.Contact.{Contact}
use Rattle.rly_plan_syntax.specs.declared.draft.ContactDraft.{ContactDraft}
use Rattle.rly_plan_syntax.specs.declared.draft.NeighbourDraft.{NeighbourDraft}
use Rattle.rly_plan_syntax.specs.declared.far_end.FarEndDraft.{FarEndDraft}
use Rattle.rly_plan_syntax.specs.declared.far_end.FarEndDraft.TheVariants as draft
use Rattle.rly_plan_syntax.specs.declared.far_end.FolderDraft.{FolderDraft}
use Rattle.rly_plan_syntax.specs.declared.route.DestinationDraft.{DestinationDraft}
use Rattle.rly_plan_syntax.specs.declared.route.DestinationDraft.TheVariants as to_draft
use Rattle.rly_plan_syntax.specs.declared.route.RouteDraft.{RouteDraft}
use Rattle.rly_plan.specs.declared.neighbour.Neighbour.{Neighbour}
use Rattle.rly_plan.specs.declared.plan.NextHop.{NextHop}
use Rattle.rly_plan.specs.declared.route.Destination.{Destination}
use Rattle.rly_plan.specs.declared.route.Destination.TheVariants.{Rest, Station}
use Rattle.rly_plan.specs.declared.route.Route.{Route}
use Rattle.rly_plan.specs.ContactPlan.{ContactPlan}
use Rattle.rly_plan.specs.FarEnds.{far_end_from}
use Rattle.rly_plan.specs.Numbers.{is_between, is_given_between, is_station, number, number_16, number_32}
use Rattle.rly_plan_syntax.specs.Draft.{HopText, PlanText, draft_of}
use Rattle.rly_plan_syntax.specs.Keys.{keys_are_known}

-- ---- 53: a number out of its range

-- a destination if it is given, milliseconds below 2^40 microseconds if they are given, and a number of files
abbrev pub folder_in_range : FolderDraft → Bool
folder_in_range f =
    is_given_between 1 65535 f.destination && (is_given_between 1 1099511627 f.limit && is_between 1 1000000 f.most)

abbrev pub far_in_range : FarEndDraft → Bool
far_in_range (draft.Socket socket) = true
far_in_range (draft.Folder folder) = folder_in_range folder

abbrev pub neighbour_in_range : ℕ → NeighbourDraft → Bool
neighbour_in_range id n = is_between id id n.id && (is_station n.station && far_in_range n.far)

-- a contact begins at 0 or later, and ends after that and below 2^52
abbrev pub contact_in_range : ContactDraft → Bool
contact_in_range c = is_between 0 (MOMENT_LIMIT - 1) c.begin && is_between (number c.begin + 1) (MOMENT_LIMIT - 1) c.end

-- minimum retransmission timeout, in milliseconds
abbrev pub resend_in_range : ℤ → Bool
resend_in_range z = is_between MIN_RESEND MAX_RESEND z

-- bytes a second, if there is a rate
abbrev pub rate_in_range : Option ℤ → Bool
rate_in_range rate = is_given_between 1 1000000000 rate

-- seconds
abbrev pub lead_in_range : ℤ → Bool
lead_in_range z = is_between 0 86400 z

abbrev pub hop_in_range : ℕ → HopText → Bool
hop_in_range id h =
    neighbour_in_range id h.neighbour
    && (resend_in_range h.resend
    && (rate_in_range h.rate
    && (lead_in_range h.lead
    && (nat_le (length h.contacts) MAX_CONTACTS && list_all contact_in_range h.contacts))))

abbrev pub destination_in_range : DestinationDraft → Bool
destination_in_range (to_draft.Station station) = is_station station
destination_in_range to_draft.Rest = true

abbrev pub route_in_range : RouteDraft → Bool
route_in_range r = destination_in_range r.destination && is_between 1 MAX_HOPS r.hop

-- each row passes the test at its id: n, n + 1, ..
abbrev pub all_numbered : {A : Type 0} → (ℕ → A → Bool) → ℕ → List A → Bool
all_numbered test n [] = true
all_numbered test n (x ∷ xs) = test n x && all_numbered test (n + 1) xs

-- from 1 row to `most`, each of which passes the test at its id: 1, 2, 3, ..
abbrev pub rows_in_range : {A : Type 0} → (ℕ → A → Bool) → ℕ → List A → Bool
rows_in_range test most rows = (nat_le 1 (length rows) && nat_le (length rows) most) && all_numbered test 1 rows

abbrev pub is_in_range : PlanText → Bool
is_in_range d =
    is_station d.station
    && (rows_in_range neighbour_in_range MAX_PEERS d.peers
    && (rows_in_range hop_in_range MAX_HOPS d.hops
    && list_all route_in_range d.routes))

-- ---- 51 and 52: contacts out of order, or numbers that occur twice

-- each two adjacent elements of the list pass the test
abbrev pub all_adjacent : {A : Type 0} → (A → A → Bool) → List A → Bool
all_adjacent test [] = true
all_adjacent test (x ∷ []) = true
all_adjacent test (x ∷ y ∷ xs) = test x y && all_adjacent test (y ∷ xs)

-- a contact begins no earlier than the one before it begins, and no earlier than that one ends
abbrev pub begin_in_order : ContactDraft → ContactDraft → Bool
begin_in_order front c = nat_le (number front.begin) (number c.begin)

abbrev pub are_apart : ContactDraft → ContactDraft → Bool
are_apart front c = nat_le (number front.end) (number c.begin)

abbrev pub is_sorted : PlanText → Bool
is_sorted d = list_all (λ h. all_adjacent begin_in_order h.contacts) d.hops

-- some number occurs twice
abbrev pub repeats : List ℕ → Bool
repeats [] = false
repeats (x ∷ xs) = list_any (λ y. y == x) xs || repeats xs

-- the number of a destination: 0, which no station has, for `rest`
abbrev pub destination_number : DestinationDraft → ℕ
destination_number (to_draft.Station station) = number_16 station
destination_number to_draft.Rest = 0

abbrev pub overlaps : PlanText → Bool
overlaps d =
    not (list_all (λ h. all_adjacent are_apart h.contacts) d.hops)
    || (repeats (map (λ p. number_16 p.station) d.peers)
    || (repeats (map (λ h. number_16 h.neighbour.station) d.hops)
    || repeats (map (λ r. destination_number r.destination) d.routes)))

-- ---- 54: a route to a hop that doesn't exist

abbrev pub leads_to_hops : PlanText → Bool
leads_to_hops d = list_all (λ r. is_between 1 (length d.hops) r.hop) d.routes

-- ---- the plan

abbrev pub neighbour_from : NeighbourDraft → Neighbour
neighbour_from n = record { station = number_16 n.station; far = far_end_from n.far }

abbrev pub contact_from : ContactDraft → Contact
contact_from c = record { begin = number c.begin; end = number c.end }

abbrev pub hop_from : HopText → NextHop
hop_from h = record {
  neighbour = neighbour_from h.neighbour;
  resend = number_32 h.resend;
  rate = option_map number_32 h.rate;
  lead = number_32 h.lead;
  contacts = map contact_from h.contacts;
}

abbrev pub destination_from : DestinationDraft → Destination
destination_from (to_draft.Station station) = Station (number_16 station)
destination_from to_draft.Rest = Rest

abbrev pub route_from : RouteDraft → Route
route_from r = record { destination = destination_from r.destination; hop = record { 0 = number_16 r.hop } }

abbrev pub plan_from : PlanText → ContactPlan
plan_from d = record {
  station = number_16 d.station;
  peers = map neighbour_from d.peers;
  hops = map hop_from d.hops;
  routes = map route_from d.routes;
}

-- passes 4 to 7
abbrev pub plan_of_draft : Option PlanText → Result ContactPlan Refusal
plan_of_draft None = Err Syntax
plan_of_draft (Some d) =
    if not (is_in_range d) then Err Range
    else if not (is_sorted d) then Err Unsorted
    else if overlaps d then Err Overlap
    else if not (leads_to_hops d) then Err Unknown
    else Ok (plan_from d)

-- passes 2 and 3
abbrev pub plan_of_document : Option Members → Result ContactPlan Refusal
plan_of_document None = Err Syntax
plan_of_document (Some ms) = if not (keys_are_known ms) then Err Unknown else plan_of_draft (draft_of ms)

-- the plan that a text holds, or the first fault of its passes
unfoldable pub plan_of_text : List ℕ → Result ContactPlan Refusal
plan_of_text text = plan_of_document (parse_document text)
