-- A plan that passed is sound.
use Rattle.std.proofs.Common.{◌≡◌, ◌≢◌, ℕ, zero, suc, ◌+◌, ◌<◌, ◌≤◌, ◌==◌, nat_le, ℤ, pos, negsuc, Bool, true, false, not, ◌&&◌, ◌||◌, cond, List, [], ◌∷◌, map, length, get_or, Option, Some, None, Ok, Err, refl, ap, ◌∙◌, sym, subst, arith, leb-true, le-leb}
use Rattle.std.specs.List.{All, AllPairs, list_all, list_any}
use Rattle.std.specs.Prelude.{IfSome, option_map}
use Rattle.std.proofs.lemmas.Bool.{and_parts, or_parts, eqb-false, false≢true, not-false}
use Rattle.toml.specs.Data.{Members}
use Rattle.toml.specs.Parse.{parse_document}
use Rattle.rly_core.specs.Bounds.{IsIn}
use Rattle.rly_core.specs.declared.limits.TheConstants.{MAX_CONTACTS, MAX_HOPS, MAX_PEERS, MAX_RESEND, MIN_RESEND, MOMENT_LIMIT}
use Rattle.rly_core.specs.declared.refusal.Refusal.TheVariants.{Unsorted, Overlap, Range, Unknown}
use Rattle.rly_plan.specs.declared.contacts.Contact.{Contact}
use Rattle.rly_plan_syntax.specs.declared.draft.ContactDraft.{ContactDraft}
use Rattle.rly_plan_syntax.specs.declared.draft.NeighbourDraft.{NeighbourDraft}
use Rattle.rly_plan_syntax.specs.declared.far_end.FarEndDraft.{FarEndDraft}
use Rattle.rly_plan_syntax.specs.declared.far_end.FarEndDraft.TheVariants as draft
use Rattle.rly_plan_syntax.specs.declared.far_end.FolderDraft.{FolderDraft}
use Rattle.rly_plan_syntax.specs.declared.route.DestinationDraft.{DestinationDraft}
use Rattle.rly_plan_syntax.specs.declared.route.DestinationDraft.TheVariants as to_draft
use Rattle.rly_plan_syntax.specs.declared.route.RouteDraft.{RouteDraft}
use Rattle.rly_plan.specs.declared.route.Destination.{Destination}
use Rattle.rly_plan.specs.declared.route.Destination.TheVariants.{Rest, Station}
use Rattle.rly_plan.specs.ContactPlan.{ContactPlan}
use Rattle.rly_plan_syntax.specs.Draft.{HopText, PlanText, draft_of}
use Rattle.rly_plan_syntax.specs.Keys.{keys_are_known}
use Rattle.rly_plan.specs.Passes.{all_adjacent, all_numbered, are_apart, contact_from, contact_in_range, destination_from, destination_in_range, destination_number, far_in_range, folder_in_range, hop_from, hop_in_range, is_in_range, is_sorted, leads_to_hops, neighbour_from, neighbour_in_range, overlaps, plan_from, plan_of_text, plan_of_document, plan_of_draft, repeats, route_from, route_in_range, rows_in_range}
use Rattle.rly_plan.specs.Numbers.{is_between, is_given_between, is_station, number, number_16, number_32}
use Rattle.rly_plan.specs.FarEnds.{far_end_from, folder_at, folder_from}
use Rattle.rly_plan.specs.Sound.{IsDestination, IsSoundFolder, IsSoundNeighbour, AreInOrder, IsSoundPlan}
use Rattle.rly_plan.proofs.PassLemmas.{between_bounds, contact_bounds, hop_parts}

-- ---- a draft that passed

-- the draft of a plan, which passed
record Passed (d : PlanText) (plan : ContactPlan) : Type 0 where
  ranged : is_in_range d ≡ true
  apart : overlaps d ≡ false
  leads : leads_to_hops d ≡ true
  made : plan_from d ≡ plan

chosen : (a b c e : Bool) (p plan : ContactPlan)
    → (cond (not a) (Err Range) (cond (not b) (Err Unsorted) (cond c (Err Overlap) (cond (not e) (Err Unknown) (Ok p))))) ≡ Ok plan
    → (a ≡ true) × (c ≡ false) × (e ≡ true) × (p ≡ plan)
chosen true true false true p plan h = (refl, refl, refl, cc)
chosen true true false false p plan h = cc
chosen true true true e p plan h = cc
chosen true false c e p plan h = cc
chosen false b c e p plan h = cc

passed_draft : (o : Option PlanText) (plan : ContactPlan) → plan_of_draft o ≡ Ok plan → (d : PlanText) × Passed d plan
passed_draft None plan h = cc
passed_draft (Some d) plan h =
    let (ranged, apart, leads, made) = chosen (is_in_range d) (is_sorted d) (overlaps d) (leads_to_hops d) (plan_from d) plan h in
    (d, record { ranged = ranged; apart = apart; leads = leads; made = made })

known : (b : Bool) (o : Option PlanText) (plan : ContactPlan) → cond (not b) (Err Unknown) (plan_of_draft o) ≡ Ok plan → plan_of_draft o ≡ Ok plan
known true o plan h = h
known false o plan h = cc

passed : (o : Option Members) (plan : ContactPlan) → plan_of_document o ≡ Ok plan → (d : PlanText) × Passed d plan
passed None plan h = cc
passed (Some ms) plan h = passed_draft (draft_of ms) plan (known (keys_are_known ms) (draft_of ms) plan h)

-- ---- lists

all_map : {A B : Type 0} (p : A → Bool) (f : A → B) (P : B → Type 0) → ((x : A) → p x ≡ true → P (f x)) → (xs : List A) → list_all p xs ≡ true → All P (map f xs)
all_map p f P each [] h k d within = absurd (omega arith)
all_map p f P each (x ∷ xs) h zero d within = each x (and_parts (p x) (list_all p xs) h).0
all_map p f P each (x ∷ xs) h (suc k) d within = all_map p f P each xs (and_parts (p x) (list_all p xs) h).1 k d (omega arith)

numbered_map : {A B : Type 0} (test : ℕ → A → Bool) (f : A → B) (P : B → Type 0) → ((n : ℕ) (x : A) → test n x ≡ true → P (f x)) → (n : ℕ) (xs : List A) → all_numbered test n xs ≡ true → All P (map f xs)
numbered_map test f P each n [] h k d within = absurd (omega arith)
numbered_map test f P each n (x ∷ xs) h zero d within = each n x (and_parts (test n x) (all_numbered test (n + 1) xs) h).0
numbered_map test f P each n (x ∷ xs) h (suc k) d within = numbered_map test f P each (n + 1) xs (and_parts (test n x) (all_numbered test (n + 1) xs) h).1 k d (omega arith)

length_of_map : {A B : Type 0} (f : A → B) (xs : List A) → length (map f xs) ≡ length xs
length_of_map f [] = refl
length_of_map f (x ∷ xs) = ap suc (length_of_map f xs)

none_equal : {A B : Type 0} (key : A → ℕ) (f : A → B) (seen : B → ℕ) → ((x : A) → seen (f x) ≡ key x) → (n : ℕ) (xs : List A) → list_any (λ y. y == n) (map key xs) ≡ false
    → (j : ℕ) (d : B) → j < length (map f xs) → n ≢ seen (get_or (map f xs) j d)
none_equal key f seen same n [] h j d within e = absurd (omega arith)
none_equal key f seen same n (x ∷ xs) h zero d within e = eqb-false (key x) n (or_parts (key x == n) (list_any (λ y. y == n) (map key xs)) h).0 (sym (e ∙ same x))
none_equal key f seen same n (x ∷ xs) h (suc j) d within e = none_equal key f seen same n xs (or_parts (key x == n) (list_any (λ y. y == n) (map key xs)) h).1 j d (omega arith) e

distinct_map : {A B : Type 0} (key : A → ℕ) (f : A → B) (seen : B → ℕ) → ((x : A) → seen (f x) ≡ key x) → (xs : List A) → repeats (map key xs) ≡ false → AllPairs (λ a b. seen a ≢ seen b) (map f xs)
distinct_map key f seen same [] h i j d order within = absurd (omega arith)
distinct_map key f seen same (x ∷ xs) h i zero d order within = absurd (omega arith)
distinct_map key f seen same (x ∷ xs) h zero (suc j) d order within =
    let other = none_equal key f seen same (key x) xs (or_parts (list_any (λ y. y == key x) (map key xs)) (repeats (map key xs)) h).0 j d (omega arith) in
    λ e. other (sym (same x) ∙ e)
distinct_map key f seen same (x ∷ xs) h (suc i) (suc j) d order within =
    distinct_map key f seen same xs (or_parts (list_any (λ y. y == key x) (map key xs)) (repeats (map key xs)) h).1 i j d (omega arith) (omega arith)

-- ---- numbers

-- a number that fits its bits
held : (limit low high : ℕ) (z : ℤ) → high ≤ limit → is_between low high z ≡ true → cond (is_between 0 limit z) (number z) 0 ≡ number z
held limit low high (pos n) fits h =
    let most = leb-true n high (and_parts (nat_le low n) (nat_le n high) h).1 in
    rw (le-leb 0 n (omega arith), le-leb n limit (omega (arith, most)))
held limit low high (negsuc n) fits h = absurd (false≢true h)

sixteen : (low high : ℕ) (z : ℤ) → high ≤ 65535 → is_between low high z ≡ true → IsIn low high (number_16 z)
sixteen low high z fits h = rw (held 65535 low high z fits h) (between_bounds low high z h)

thirty_two : (low high : ℕ) (z : ℤ) → high ≤ 4294967295 → is_between low high z ≡ true → IsIn low high (number_32 z)
thirty_two low high z fits h = rw (held 4294967295 low high z fits h) (between_bounds low high z h)

resend_sound : (n : ℕ) (h : HopText) → hop_in_range n h ≡ true → IsIn MIN_RESEND MAX_RESEND (number_32 h.resend)
resend_sound n h ranged = thirty_two MIN_RESEND MAX_RESEND h.resend (omega arith) (hop_parts n h ranged).resend

-- a number that may be left out
given_16 : (low high : ℕ) (given : Option ℤ) → high ≤ 65535 → is_given_between low high given ≡ true → IfSome (option_map number_16 given) (IsIn low high)
given_16 low high None fits h = tt
given_16 low high (Some z) fits h = sixteen low high z fits h

given_32 : (low high : ℕ) (given : Option ℤ) → high ≤ 4294967295 → is_given_between low high given ≡ true → IfSome (option_map number_32 given) (IsIn low high)
given_32 low high None fits h = tt
given_32 low high (Some z) fits h = thirty_two low high z fits h

rate_sound : (n : ℕ) (h : HopText) → hop_in_range n h ≡ true → IfSome (option_map number_32 h.rate) (IsIn 1 1000000000)
rate_sound n h ranged = given_32 1 1000000000 h.rate (omega arith) (hop_parts n h ranged).rate

lead_sound : (n : ℕ) (h : HopText) → hop_in_range n h ≡ true → number_32 h.lead ≤ 86400
lead_sound n h ranged = (thirty_two 0 86400 h.lead (omega arith) (hop_parts n h ranged).lead).1

folder_sound : (f : FolderDraft) → folder_in_range f ≡ true → IsSoundFolder (folder_from f)
folder_sound f h =
    let (destination, more) = and_parts (is_given_between 1 65535 f.destination) (is_given_between 1 1099511627 f.limit && is_between 1 1000000 f.most) h in
    let (limit, most) = and_parts (is_given_between 1 1099511627 f.limit) (is_between 1 1000000 f.most) more in
    record {
      destination = given_16 1 65535 f.destination (omega arith) destination;
      limit = given_32 1 1099511627 f.limit (omega arith) limit;
      most = thirty_two 1 1000000 f.most (omega arith) most;
    }

far_sound : (far : FarEndDraft) → far_in_range far ≡ true → IfSome (folder_at (far_end_from far)) IsSoundFolder
far_sound (draft.Socket socket) h = tt
far_sound (draft.Folder folder) h = folder_sound folder h

neighbour_sound : (n : ℕ) (p : NeighbourDraft) → neighbour_in_range n p ≡ true → IsSoundNeighbour (neighbour_from p)
neighbour_sound n p h =
    let more = (and_parts (is_between n n p.id) (is_station p.station && far_in_range p.far) h).1 in
    let (station, far) = and_parts (is_station p.station) (far_in_range p.far) more in
    record { station = sixteen 1 65535 p.station (omega arith) station; folder = far_sound p.far far }

destination_sound : (to : DestinationDraft) → destination_in_range to ≡ true → IsDestination (destination_from to)
destination_sound (to_draft.Station station) h = sixteen 1 65535 station (omega arith) h
destination_sound to_draft.Rest h = tt

route_sound : (hops : ℕ) (r : RouteDraft) → hops ≤ 65535 → route_in_range r ≡ true → is_between 1 hops r.hop ≡ true → IsDestination (destination_from r.destination) × IsIn 1 hops (number_16 r.hop)
route_sound hops r fits h leads = (destination_sound r.destination (and_parts (destination_in_range r.destination) (is_between 1 MAX_HOPS r.hop) h).0, sixteen 1 hops r.hop fits leads)

routes_sound : (hops : ℕ) (rs : List RouteDraft) → hops ≤ 65535 → list_all route_in_range rs ≡ true → list_all (λ r. is_between 1 hops r.hop) rs ≡ true
    → All (λ r. IsDestination r.destination × IsIn 1 hops r.hop.0) (map route_from rs)
routes_sound hops [] fits h leads k d within = absurd (omega arith)
routes_sound hops (r ∷ rs) fits h leads zero d within =
    route_sound hops r fits (and_parts (route_in_range r) (list_all route_in_range rs) h).0 (and_parts (is_between 1 hops r.hop) (list_all (λ r. is_between 1 hops r.hop) rs) leads).0
routes_sound hops (r ∷ rs) fits h leads (suc k) d within =
    routes_sound hops rs fits (and_parts (route_in_range r) (list_all route_in_range rs) h).1 (and_parts (is_between 1 hops r.hop) (list_all (λ r. is_between 1 hops r.hop) rs) leads).1 k d (omega arith)

-- two routes whose numbers differ have two destinations
abbrev number_of : Destination → ℕ
number_of (Station station) = station
number_of Rest = 0

same_number : (to : DestinationDraft) → number_of (destination_from to) ≡ destination_number to
same_number (to_draft.Station station) = refl
same_number to_draft.Rest = refl

routes_distinct : (rs : List RouteDraft) → repeats (map (λ r. destination_number r.destination) rs) ≡ false
    → AllPairs (λ r s. r.destination ≢ s.destination) (map route_from rs)
routes_distinct rs once i j d order within e =
    distinct_map (λ r. destination_number r.destination) route_from (λ r. number_of r.destination) (λ r. same_number r.destination) rs once i j d order within (ap number_of e)

-- ---- contacts

apart_behind : (x : ContactDraft) (ds : List ContactDraft) → all_adjacent are_apart (x ∷ ds) ≡ true → all_adjacent are_apart ds ≡ true
apart_behind x [] apart = refl
apart_behind x (y ∷ ds) apart = (and_parts (are_apart x y) (all_adjacent are_apart (y ∷ ds)) apart).1

first_apart : (x : ContactDraft) (ds : List ContactDraft) → list_all contact_in_range ds ≡ true → all_adjacent are_apart (x ∷ ds) ≡ true
    → (j : ℕ) (d : Contact) → j < length (map contact_from ds) → number x.end ≤ (get_or (map contact_from ds) j d).begin
first_apart x [] ranged apart j d within = absurd (omega arith)
first_apart x (y ∷ ds) ranged apart zero d within = leb-true (number x.end) (number y.begin) (and_parts (are_apart x y) (all_adjacent are_apart (y ∷ ds)) apart).0
first_apart x (y ∷ ds) ranged apart (suc j) d within =
    let (here, more) = and_parts (contact_in_range y) (list_all contact_in_range ds) ranged in
    let (near, far) = and_parts (are_apart x y) (all_adjacent are_apart (y ∷ ds)) apart in
    omega (arith, leb-true (number x.end) (number y.begin) near, (contact_bounds y here).0, first_apart y ds more far j d (omega arith))

pairs_apart : (ds : List ContactDraft) → list_all contact_in_range ds ≡ true → all_adjacent are_apart ds ≡ true → AllPairs (λ c d. c.end ≤ d.begin) (map contact_from ds)
pairs_apart [] ranged apart i j d order within = absurd (omega arith)
pairs_apart (x ∷ ds) ranged apart i zero d order within = absurd (omega arith)
pairs_apart (x ∷ ds) ranged apart zero (suc j) d order within = first_apart x ds (and_parts (contact_in_range x) (list_all contact_in_range ds) ranged).1 apart j d (omega arith)
pairs_apart (x ∷ ds) ranged apart (suc i) (suc j) d order within =
    pairs_apart ds (and_parts (contact_in_range x) (list_all contact_in_range ds) ranged).1 (apart_behind x ds apart) i j d (omega arith) (omega arith)

hop_sound : (n : ℕ) (h : HopText) → hop_in_range n h ≡ true → all_adjacent are_apart h.contacts ≡ true → IsSoundNeighbour (neighbour_from h.neighbour) × AreInOrder (map contact_from h.contacts)
hop_sound n h ranged apart =
    let parts = hop_parts n h ranged in (
      neighbour_sound n h.neighbour parts.neighbour,
      record {
        count = rw (length_of_map contact_from h.contacts) (leb-true (length h.contacts) MAX_CONTACTS parts.count);
        lasting = all_map contact_in_range contact_from (λ c. (c.begin < c.end) × (c.end < MOMENT_LIMIT)) contact_bounds h.contacts parts.contacts;
        apart = pairs_apart h.contacts parts.contacts apart;
      },
    )

hops_sound : (n : ℕ) (hs : List HopText) → all_numbered hop_in_range n hs ≡ true → list_all (λ h. all_adjacent are_apart h.contacts) hs ≡ true
    → All (λ h. IsSoundNeighbour h.neighbour × AreInOrder h.contacts) (map hop_from hs)
hops_sound n [] ranged apart k d within = absurd (omega arith)
hops_sound n (h ∷ hs) ranged apart zero d within =
    hop_sound n h (and_parts (hop_in_range n h) (all_numbered hop_in_range (n + 1) hs) ranged).0 (and_parts (all_adjacent are_apart h.contacts) (list_all (λ h. all_adjacent are_apart h.contacts) hs) apart).0
hops_sound n (h ∷ hs) ranged apart (suc k) d within =
    hops_sound (n + 1) hs (and_parts (hop_in_range n h) (all_numbered hop_in_range (n + 1) hs) ranged).1 (and_parts (all_adjacent are_apart h.contacts) (list_all (λ h. all_adjacent are_apart h.contacts) hs) apart).1 k d (omega arith)

-- ---- the plan

counted_rows : {A B : Type 0} (test : ℕ → A → Bool) (f : A → B) (most : ℕ) (rows : List A) → rows_in_range test most rows ≡ true → IsIn 1 most (length (map f rows)) × (all_numbered test 1 rows ≡ true)
counted_rows test f most rows h =
    let (counted, ranged) = and_parts (nat_le 1 (length rows) && nat_le (length rows) most) (all_numbered test 1 rows) h in
    let (least, greatest) = and_parts (nat_le 1 (length rows)) (nat_le (length rows) most) counted in
    (rw (length_of_map f rows) (leb-true 1 (length rows) least, leb-true (length rows) most greatest), ranged)

draft_sound : (d : PlanText) → is_in_range d ≡ true → overlaps d ≡ false → leads_to_hops d ≡ true → IsSoundPlan (plan_from d)
draft_sound d ranged apart leads =
    let (station, in_rows) = and_parts (is_station d.station) (rows_in_range neighbour_in_range MAX_PEERS d.peers && (rows_in_range hop_in_range MAX_HOPS d.hops && list_all route_in_range d.routes)) ranged in
    let (in_peers, in_rest) = and_parts (rows_in_range neighbour_in_range MAX_PEERS d.peers) (rows_in_range hop_in_range MAX_HOPS d.hops && list_all route_in_range d.routes) in_rows in
    let (in_hops, in_routes) = and_parts (rows_in_range hop_in_range MAX_HOPS d.hops) (list_all route_in_range d.routes) in_rest in
    let peers = counted_rows neighbour_in_range neighbour_from MAX_PEERS d.peers in_peers in
    let hops = counted_rows hop_in_range hop_from MAX_HOPS d.hops in_hops in
    let hop_count : length (map hop_from d.hops) ≡ length d.hops = length_of_map hop_from d.hops in
    let (contacts, twice) = or_parts (not (list_all (λ h. all_adjacent are_apart h.contacts) d.hops)) (repeats (map (λ p. number_16 p.station) d.peers) || (repeats (map (λ h. number_16 h.neighbour.station) d.hops) || repeats (map (λ r. destination_number r.destination) d.routes))) apart in
    let (peers_once, more) = or_parts (repeats (map (λ p. number_16 p.station) d.peers)) (repeats (map (λ h. number_16 h.neighbour.station) d.hops) || repeats (map (λ r. destination_number r.destination) d.routes)) twice in
    let (hops_once, routes_once) = or_parts (repeats (map (λ h. number_16 h.neighbour.station) d.hops)) (repeats (map (λ r. destination_number r.destination) d.routes)) more in
    record {
      station = sixteen 1 65535 d.station (omega arith) station;
      peer_count = peers.0;
      hop_count = hops.0;
      peers = numbered_map neighbour_in_range neighbour_from IsSoundNeighbour neighbour_sound 1 d.peers peers.1;
      hops = hops_sound 1 d.hops hops.1 (not-false (list_all (λ h. all_adjacent are_apart h.contacts) d.hops) contacts);
      resends = numbered_map hop_in_range hop_from (λ h. IsIn MIN_RESEND MAX_RESEND h.resend) resend_sound 1 d.hops hops.1;
      rates = numbered_map hop_in_range hop_from (λ h. IfSome h.rate (IsIn 1 1000000000)) rate_sound 1 d.hops hops.1;
      leads = numbered_map hop_in_range hop_from (λ h. h.lead ≤ 86400) lead_sound 1 d.hops hops.1;
      routes = rw hop_count (routes_sound (length d.hops) d.routes (omega (arith, hops.0, hop_count)) in_routes leads);
      one_peer_a_station = distinct_map (λ p. number_16 p.station) neighbour_from (λ p. p.station) (λ p. refl) d.peers peers_once;
      one_hop_a_station = distinct_map (λ h. number_16 h.neighbour.station) hop_from (λ h. h.neighbour.station) (λ h. refl) d.hops hops_once;
      one_route_a_destination = routes_distinct d.routes routes_once;
    }

-- every plan of a text is sound
pub plan_sound : (text : List ℕ) (plan : ContactPlan) → plan_of_text text ≡ Ok plan → IsSoundPlan plan
unfolding plan_of_text
plan_sound text plan h =
    let (d, found) = passed (parse_document text) plan h in
    subst IsSoundPlan found.made (draft_sound d found.ranged found.apart found.leads)
