-- A pass over the numbers succeeds iff it locates no fault.
use Rattle.std.proofs.Common.{◌≡◌, ℕ, ◌+◌, nat_le, Bool, ◌&&◌, List, [], ◌∷◌, length, Option, is_none, option_map, refl, ap, ◌∙◌}
use Rattle.std.specs.List.{list_all}
use Rattle.rly_core.specs.declared.limits.TheConstants.{MAX_CONTACTS, MAX_HOPS, MAX_PEERS}
use Rattle.rly_plan_syntax.specs.declared.draft.ContactDraft.{ContactDraft}
use Rattle.rly_plan_syntax.specs.declared.draft.NeighbourDraft.{NeighbourDraft}
use Rattle.rly_plan_syntax.specs.declared.far_end.FarEndDraft.{FarEndDraft}
use Rattle.rly_plan_syntax.specs.declared.far_end.FarEndDraft.TheVariants as draft
use Rattle.rly_plan_syntax.specs.declared.far_end.FolderDraft.{FolderDraft}
use Rattle.rly_plan_syntax.specs.declared.key_path.KeyPath.TheVariants as place
use Rattle.rly_plan_syntax.specs.declared.key_path.Row.{Row}
use Rattle.rly_plan_syntax.specs.declared.key_path.Row.TheVariants as row
use Rattle.rly_plan_syntax.specs.declared.key_path.Spot.{Spot}
use Rattle.rly_plan_syntax.specs.declared.key_path.Spot.TheVariants as spot
use Rattle.rly_plan_syntax.specs.declared.key_path.PlanKey.TheVariants as key
use Rattle.rly_plan_syntax.specs.declared.route.RouteDraft.{RouteDraft}
use Rattle.rly_plan_syntax.specs.DocumentPaths.{unless}
use Rattle.rly_plan_syntax.specs.Draft.{HopText, PlanText}
use Rattle.rly_plan_syntax.proofs.NoPath.{none_map, none_or, none_unless}
use Rattle.rly_plan.specs.Passes.{all_adjacent, all_numbered, are_apart, begin_in_order, contact_in_range, destination_in_range, far_in_range, folder_in_range, hop_in_range, is_in_range, is_sorted, lead_in_range, leads_to_hops, neighbour_in_range, rate_in_range, resend_in_range, route_in_range, rows_in_range}
use Rattle.rly_plan.specs.Numbers.{is_between, is_given_between, is_station}
use Rattle.rly_plan.specs.KeyPaths.{apart_fault, far_range_fault, first_adjacent, first_contact, first_row, folder_range_fault, hop_range_fault, lead_fault, lead_place, neighbour_range_fault, order_fault, range_place, route_range_fault, rows_range_fault, sorted_place}

none_row : {A : Type 0} (fault : ℕ → A → Option Spot) (test : ℕ → A → Bool) → ((n : ℕ) (x : A) → is_none (fault n x) ≡ test n x)
    → (row : Row) (n : ℕ) (xs : List A) → is_none (first_row fault row n xs) ≡ all_numbered test n xs
none_row fault test same row n [] = refl
none_row fault test same row n (x ∷ xs) =
    none_or (option_map (place.In row n) (fault n x)) (first_row fault row (n + 1) xs) (test n x) (all_numbered test (n + 1) xs)
    (none_map (place.In row n) (fault n x) (test n x) (same n x)) (none_row fault test same row (n + 1) xs)

none_row_all : {A : Type 0} (fault : ℕ → A → Option Spot) (test : A → Bool) → ((n : ℕ) (x : A) → is_none (fault n x) ≡ test x)
    → (row : Row) (n : ℕ) (xs : List A) → is_none (first_row fault row n xs) ≡ list_all test xs
none_row_all fault test same row n [] = refl
none_row_all fault test same row n (x ∷ xs) =
    none_or (option_map (place.In row n) (fault n x)) (first_row fault row (n + 1) xs) (test x) (list_all test xs)
    (none_map (place.In row n) (fault n x) (test x) (same n x)) (none_row_all fault test same row (n + 1) xs)

-- ---- the ranges

none_folder : (f : FolderDraft) → is_none (folder_range_fault f) ≡ folder_in_range f
none_folder f =
    none_or _ _ _ _ (none_unless (is_given_between 1 65535 f.destination) (spot.At key.Destination))
    (none_or _ _ _ _ (none_unless (is_given_between 1 1099511627 f.limit) (spot.At key.Limit))
    (none_unless (is_between 1 1000000 f.most) (spot.At key.Most)))

none_far : (far : FarEndDraft) → is_none (far_range_fault far) ≡ far_in_range far
none_far (draft.Socket socket) = refl
none_far (draft.Folder folder) = none_folder folder

none_neighbour : (id : ℕ) (n : NeighbourDraft) → is_none (neighbour_range_fault id n) ≡ neighbour_in_range id n
none_neighbour id n =
    none_or _ _ _ _ (none_unless (is_between id id n.id) (spot.At key.Id))
    (none_or _ _ _ _ (none_unless (is_station n.station) (spot.At key.Station)) (none_far n.far))

none_contact : (test : ContactDraft → Bool) (n : ℕ) (cs : List ContactDraft) → is_none (first_contact test n cs) ≡ list_all test cs
none_contact test n [] = refl
none_contact test n (c ∷ cs) =
    none_or (unless (test c) (spot.Contact n)) (first_contact test (n + 1) cs) (test c) (list_all test cs)
    (none_unless (test c) (spot.Contact n)) (none_contact test (n + 1) cs)

none_hop : (id : ℕ) (h : HopText) → is_none (hop_range_fault id h) ≡ hop_in_range id h
none_hop id h =
    none_or _ _ _ _ (none_neighbour id h.neighbour)
    (none_or _ _ _ _ (none_unless (resend_in_range h.resend) (spot.At key.Resend))
    (none_or _ _ _ _ (none_unless (rate_in_range h.rate) (spot.At key.Rate))
    (none_or _ _ _ _ (none_unless (lead_in_range h.lead) (spot.At key.Lead))
    (none_or _ _ _ _ (none_unless (nat_le (length h.contacts) MAX_CONTACTS) (spot.At key.Contacts))
    (none_contact contact_in_range 1 h.contacts)))))

none_route : (n : ℕ) (r : RouteDraft) → is_none (route_range_fault n r) ≡ route_in_range r
none_route n r =
    none_or _ _ _ _ (none_unless (destination_in_range r.destination) (spot.At key.Destination)) (none_unless (is_between 1 MAX_HOPS r.hop) (spot.At key.Hop))

none_rows : {A : Type 0} (fault : ℕ → A → Option Spot) (test : ℕ → A → Bool) → ((n : ℕ) (x : A) → is_none (fault n x) ≡ test n x)
    → (row : Row) (most : ℕ) (rows : List A) → is_none (rows_range_fault fault row most rows) ≡ rows_in_range test most rows
none_rows fault test same row most rows =
    none_or _ _ _ _ (none_unless (nat_le 1 (length rows) && nat_le (length rows) most) (place.Array row)) (none_row fault test same row 1 rows)

pub none_out_of_range : (d : PlanText) → is_none (range_place d) ≡ is_in_range d
none_out_of_range d =
    none_or _ _ _ _ (none_unless (is_station d.station) place.Station)
    (none_or _ _ _ _ (none_rows neighbour_range_fault neighbour_in_range none_neighbour row.Peer MAX_PEERS d.peers)
    (none_or _ _ _ _ (none_rows hop_range_fault hop_in_range none_hop row.Hop MAX_HOPS d.hops)
    (none_row_all route_range_fault route_in_range none_route row.Route 1 d.routes)))

-- ---- adjacent contacts, and routes

none_adjacent : (test : ContactDraft → ContactDraft → Bool) (n : ℕ) (cs : List ContactDraft) → is_none (first_adjacent test n cs) ≡ all_adjacent test cs
none_adjacent test n [] = refl
none_adjacent test n (x ∷ []) = refl
none_adjacent test n (x ∷ y ∷ cs) =
    none_or (unless (test x y) (spot.Contact (n + 1))) (first_adjacent test (n + 1) (y ∷ cs)) (test x y) (all_adjacent test (y ∷ cs))
    (none_unless (test x y) (spot.Contact (n + 1))) (none_adjacent test (n + 1) (y ∷ cs))

pub none_unsorted : (d : PlanText) → is_none (sorted_place d) ≡ is_sorted d
none_unsorted d =
    none_row_all order_fault (λ h. all_adjacent begin_in_order h.contacts) (λ n h. none_adjacent begin_in_order 1 h.contacts) row.Hop 1 d.hops

pub none_overlapping : (hops all : List HopText) → hops ≡ all → is_none (first_row apart_fault row.Hop 1 hops) ≡ list_all (λ h. all_adjacent are_apart h.contacts) all
none_overlapping hops all same =
    none_row_all apart_fault (λ h. all_adjacent are_apart h.contacts) (λ n h. none_adjacent are_apart 1 h.contacts) row.Hop 1 hops
    ∙ ap (list_all (λ h. all_adjacent are_apart h.contacts)) same

pub none_astray : (d : PlanText) → is_none (lead_place d) ≡ leads_to_hops d
none_astray d =
    none_row_all (lead_fault (length d.hops)) (λ r. is_between 1 (length d.hops) r.hop)
    (λ n r. none_unless (is_between 1 (length d.hops) r.hop) (spot.At key.Hop)) row.Route 1 d.routes
