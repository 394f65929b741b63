-- A way that ends is over at most as many stations as there are: each station leads a payload to one hop, whatever station it came from,
-- so a way that came to one station twice would never end.
use Rattle.std.proofs.Common.{◌≡◌, ◌⊎◌, inl, inr, ℕ, zero, suc, ◌+◌, ◌≤◌, ◌<◌, Bool, true, false, ◌&&◌, cond, nat_lt, List, [], ◌∷◌, length, Option, Some, None, refl, sym, ap, ◌∙◌, arith, lt-ltb}
use Rattle.std.specs.Prelude.{is_some, option_and_then}
use Rattle.std.specs.Option.{option_or}
use Rattle.std.specs.List.{All, Contains}
use Rattle.std.proofs.lemmas.Bool.{false≢true}
use Rattle.std.proofs.lemmas.List.Elements.{All-cons, All-contains, All-nil}
use Rattle.std.proofs.lemmas.Option.{none-some, same_Some}
use Rattle.rly_core.specs.declared.ids.HopId.{HopId}
use Rattle.rly_plan.specs.ContactPlan.{ContactPlan, at_number, destination_in, hop_for, leads_to, own_route, rest, rest_for, unless_back}
use Rattle.rly_plan.specs.FarEnds.{addresses_at, folder_at}
use Rattle.rly_plan.specs.declared.far_end.FarEnd.{FarEnd}
use Rattle.rly_plan.specs.declared.far_end.FarEnd.TheVariants.{Folder, Socket}
use Rattle.rly_plan.specs.declared.plan.NextHop.{NextHop}
use Rattle.rly_plan_syntax.specs.Endpoints.{Endpoints}
use Rattle.rly_network.specs.Links.{reaches_at}
use Rattle.rly_network.specs.Network.{Leads, LeadsOver}
use Rattle.rly_network.specs.Stations.{is_link, next_station, station_of}
use Rattle.rly_network.specs.declared.station_plan.StationPlan.{StationPlan}
use Rattle.rly_network.proofs.Agreed.{station_found}
use Rattle.rly_network.proofs.Ways.{link_is}

-- ---- how many elements pass a test

abbrev one : Bool → ℕ
one true = 1
one false = 0

abbrev counts : {X : Type 0} → (X → Bool) → List X → ℕ
counts p [] = 0
counts p (x ∷ xs) = one (p x) + counts p xs

one_most : (b : Bool) → one b ≤ 1
one_most true = omega arith
one_most false = omega arith

one_more : (b c : Bool) → (b ≡ true → c ≡ true) → one b ≤ one c
one_more false c sub = omega arith
one_more true c sub = rw (sub refl) (omega arith)

counts_most : {X : Type 0} (p : X → Bool) (xs : List X) → counts p xs ≤ length xs
counts_most p [] = omega arith
counts_most p (x ∷ xs) = omega (arith, one_most (p x), counts_most p xs)

counts_more : {X : Type 0} (p q : X → Bool) → ((x : X) → p x ≡ true → q x ≡ true) → (xs : List X) → counts p xs ≤ counts q xs
counts_more p q sub [] = omega arith
counts_more p q sub (x ∷ xs) = omega (arith, one_more (p x) (q x) (sub x), counts_more p q sub xs)

grow_by : (b c : Bool) (few more : ℕ) → few ≤ more → (one b + few < one c + more) ⊎ (c ≡ true → b ≡ true)
grow_by true c few more less = inr (λ _. refl)
grow_by false true few more less = inl (omega (arith, less))
grow_by false false few more less = inr (λ is. is)

grow_at : {X : Type 0} (p q : X → Bool) (x : X) (xs : List X) → one (p x) ≤ one (q x) → counts p xs ≤ counts q xs
    → (counts p xs < counts q xs) ⊎ All (λ y. q y ≡ true → p y ≡ true) xs
    → (one (p x) + counts p xs < one (q x) + counts q xs) ⊎ (q x ≡ true → p x ≡ true)
    → (counts p (x ∷ xs) < counts q (x ∷ xs)) ⊎ All (λ y. q y ≡ true → p y ≡ true) (x ∷ xs)
grow_at p q x xs first more (inl less) here = inl (omega (arith, first, less))
grow_at p q x xs first more (inr all) (inl less) = inl less
grow_at p q x xs first more (inr all) (inr same) = inr (All-cons (λ y. q y ≡ true → p y ≡ true) x xs same all)

-- of two tests of which the second passes what the first does, it passes more, or the same
grow : {X : Type 0} (p q : X → Bool) → ((x : X) → p x ≡ true → q x ≡ true) → (xs : List X)
    → (counts p xs < counts q xs) ⊎ All (λ y. q y ≡ true → p y ≡ true) xs
grow p q sub [] = inr (All-nil (λ y. q y ≡ true → p y ≡ true))
grow p q sub (x ∷ xs) =
    grow_at p q x xs (one_more (p x) (q x) (sub x)) (counts_more p q sub xs) (grow p q sub xs)
    (grow_by (p x) (q x) (counts p xs) (counts q xs) (counts_more p q sub xs))

-- ---- the way of a payload, which a station leads to one hop

abbrev lead : ContactPlan → List ℕ → Option HopId
lead plan payload = option_or (option_and_then (own_route plan) (destination_in payload)) (rest plan)

abbrev follow : List StationPlan → List ℕ → StationPlan → Option StationPlan
follow stations payload s =
    option_and_then (λ (id : HopId). option_and_then (next_station stations) (at_number s.plan.hops id.0)) (lead s.plan payload)

abbrev ends_by : (StationPlan → Bool) → Option StationPlan → Bool
ends_by later None = true
ends_by later (Some t) = later t

-- the way ends after at most so many stations
abbrev ends : List StationPlan → List ℕ → ℕ → StationPlan → Bool
ends stations payload zero s = false
ends stations payload (suc n) s = ends_by (ends stations payload n) (follow stations payload s)

more_by : (r q : StationPlan → Bool) → ((t : StationPlan) → r t ≡ true → q t ≡ true) → (o : Option StationPlan) → ends_by r o ≡ true → ends_by q o ≡ true
more_by r q sub None is = refl
more_by r q sub (Some t) is = sub t is

ends_more : (stations : List StationPlan) (payload : List ℕ) (n : ℕ) (s : StationPlan) → ends stations payload n s ≡ true → ends stations payload (suc n) s ≡ true
ends_more stations payload zero s is = absurd (false≢true is)
ends_more stations payload (suc n) s is =
    more_by (ends stations payload n) (ends stations payload (suc n)) (ends_more stations payload n) (follow stations payload s) is

ends_later : (stations : List StationPlan) (payload : List ℕ) (i k : ℕ) (s : StationPlan) → ends stations payload i s ≡ true → ends stations payload (k + i) s ≡ true
ends_later stations payload i zero s is = let same : 0 + i ≡ i = omega arith in rw same is
ends_later stations payload i (suc k) s is =
    let same : suc k + i ≡ suc (k + i) = omega arith in
    rw same (ends_more stations payload (k + i) s (ends_later stations payload i k s is))

over_found : (stations : List StationPlan) (o : Option NextHop) (t : StationPlan) → option_and_then (next_station stations) o ≡ Some t → Contains stations t
over_found stations None t is = absurd (none-some t is)
over_found stations (Some hop) t is =
    (station_found stations hop.neighbour.station t (link_is (is_link hop) (station_of stations hop.neighbour.station) t is).1).0

follow_found : (stations : List StationPlan) (s : StationPlan) (o : Option HopId) (t : StationPlan)
    → option_and_then (λ (id : HopId). option_and_then (next_station stations) (at_number s.plan.hops id.0)) o ≡ Some t → Contains stations t
follow_found stations s None t is = absurd (none-some t is)
follow_found stations s (Some id) t is = over_found stations (at_number s.plan.hops id.0) t is

-- no station ends later than within so many
abbrev IsSettled : List StationPlan → List ℕ → ℕ → Type 0
IsSettled stations payload j = (s : StationPlan) → Contains stations s → ends stations payload (suc j) s ≡ true → ends stations payload j s ≡ true

settle_by : (stations : List StationPlan) (r q : StationPlan → Bool) → ((t : StationPlan) → Contains stations t → r t ≡ true → q t ≡ true) → (o : Option StationPlan)
    → ((t : StationPlan) → o ≡ Some t → Contains stations t) → ends_by r o ≡ true → ends_by q o ≡ true
settle_by stations r q sub None found is = refl
settle_by stations r q sub (Some t) found is = sub t (found t refl) is

settles : (stations : List StationPlan) (payload : List ℕ) (j : ℕ) → IsSettled stations payload j → (m : ℕ) (s : StationPlan) → Contains stations s
    → ends stations payload m s ≡ true → ends stations payload j s ≡ true
settles stations payload j settled zero s member is = absurd (false≢true is)
settles stations payload j settled (suc m) s member is =
    settled s member (settle_by stations (ends stations payload m) (ends stations payload j) (settles stations payload j settled m) (follow stations payload s)
    (λ t found. follow_found stations s (lead s.plan payload) t found) is)

chain_on : (stations : List StationPlan) (payload : List ℕ) (j : ℕ) → ((i : ℕ) × (i < j) × IsSettled stations payload i) ⊎ (j ≤ counts (ends stations payload j) stations)
    → (counts (ends stations payload j) stations < counts (ends stations payload (suc j)) stations)
    ⊎ All (λ s. ends stations payload (suc j) s ≡ true → ends stations payload j s ≡ true) stations
    → ((i : ℕ) × (i < suc j) × IsSettled stations payload i) ⊎ (suc j ≤ counts (ends stations payload (suc j)) stations)
chain_on stations payload j (inl (i, below, settled)) more = inl (i, omega (arith, below), settled)
chain_on stations payload j (inr least) (inl more) = inr (omega (arith, least, more))
chain_on stations payload j (inr least) (inr all) =
    inl (j, omega arith, λ s member. All-contains (λ t. ends stations payload (suc j) t ≡ true → ends stations payload j t ≡ true) stations s all member)

chain : (stations : List StationPlan) (payload : List ℕ) (j : ℕ)
    → ((i : ℕ) × (i < j) × IsSettled stations payload i) ⊎ (j ≤ counts (ends stations payload j) stations)
chain stations payload zero = inr (omega arith)
chain stations payload (suc j) =
    chain_on stations payload j (chain stations payload j) (grow (ends stations payload j) (ends stations payload (suc j)) (ends_more stations payload j) stations)

rest_of : (i n : ℕ) → i ≤ n → (k : ℕ) × (k + i ≡ n)
rest_of i zero less = (0, omega (arith, less))
rest_of zero (suc n) less = (suc n, omega arith)
rest_of (suc i) (suc n) less =
    let found = rest_of i n (omega (arith, less)) in
    (found.0, omega (arith, found.1))

within_by : (stations : List StationPlan) (payload : List ℕ) (m : ℕ) (s : StationPlan) → Contains stations s → ends stations payload m s ≡ true
    → ((i : ℕ) × (i < suc (length stations)) × IsSettled stations payload i) ⊎ (suc (length stations) ≤ counts (ends stations payload (suc (length stations))) stations)
    → ends stations payload (length stations) s ≡ true
within_by stations payload m s member is (inl (i, below, settled)) =
    let found = rest_of i (length stations) (omega (arith, below)) in
    rw (← found.1) (ends_later stations payload i found.0 s (settles stations payload i settled m s member is))
within_by stations payload m s member is (inr most) =
    absurd (omega (arith, most, counts_most (ends stations payload (suc (length stations))) stations))

-- a way that ends at all ends within as many stations as there are
within : (stations : List StationPlan) (payload : List ℕ) (m : ℕ) (s : StationPlan) → Contains stations s → ends stations payload m s ≡ true
    → ends stations payload (length stations) s ≡ true
within stations payload m s member is = within_by stations payload m s member is (chain stations payload (suc (length stations)))

-- ---- ways that lead

no_link : (far : FarEnd) (b : Bool) → is_some (folder_at far) ≡ true → (is_some (addresses_at far) && b) ≡ false
no_link (Folder folder) b is = refl
no_link (Socket socket) b is = absurd (false≢true is)

some_addresses : (a b : Option Endpoints) → reaches_at a b ≡ true → is_some a ≡ true
some_addresses None b is = absurd (false≢true is)
some_addresses (Some a) b is = refl

follow_at : (stations : List StationPlan) (payload : List ℕ) (s : StationPlan) (id : HopId) (hop : NextHop) → lead s.plan payload ≡ Some id
    → at_number s.plan.hops id.0 ≡ Some hop → follow stations payload s ≡ next_station stations hop
follow_at stations payload s id hop led there =
    ap (λ o. option_and_then (λ (i : HopId). option_and_then (next_station stations) (at_number s.plan.hops i.0)) o) led
    ∙ ap (option_and_then (next_station stations)) there

folder_next : (stations : List StationPlan) (hop : NextHop) → is_some (folder_at hop.neighbour.far) ≡ true → next_station stations hop ≡ None
folder_next stations hop is =
    ap (λ b. cond b (station_of stations hop.neighbour.station) None) (no_link hop.neighbour.far (nat_lt 0 (length hop.contacts)) is)

link_next : (stations : List StationPlan) (payload : List ℕ) (s : StationPlan) (hop : NextHop) (t : StationPlan) (then : HopId)
    → LeadsOver stations payload s hop t then → next_station stations hop ≡ Some t
link_next stations payload s hop t then over =
    let socket : is_some (addresses_at hop.neighbour.far) ≡ true = some_addresses _ _ over.agree.sends in
    let open_now : nat_lt 0 (length hop.contacts) ≡ true = lt-ltb 0 (length hop.contacts) over.opens in
    let is : is_link hop ≡ true = ap (λ b. b && nat_lt 0 (length hop.contacts)) socket ∙ ap (λ b. true && b) open_now in
    ap (λ b. cond b (station_of stations hop.neighbour.station) None) is ∙ over.far

unless_is : (b : Bool) (hop then : HopId) → cond b None (Some hop) ≡ Some then → hop ≡ then
unless_is true hop then is = absurd (none-some then is)
unless_is false hop then is = same_Some hop then is

-- the rest of what one station gives is that of all
pub rest_is : (plan : ContactPlan) (from : ℕ) (o : Option HopId) (hop : HopId) → rest plan ≡ o → option_and_then (unless_back plan from) o ≡ Some hop → rest plan ≡ Some hop
rest_is plan from None hop o is = absurd (none-some hop is)
rest_is plan from (Some first) hop o is = o ∙ ap Some (unless_is (leads_to plan from first) first hop is)

lead_by : (plan : ContactPlan) (from : ℕ) (own : Option HopId) (then : HopId) → option_or own (rest_for plan from) ≡ Some then → option_or own (rest plan) ≡ Some then
lead_by plan from None then is = rest_is plan from (rest plan) then refl is
lead_by plan from (Some hop) then is = is

-- the hop of what any station gives is the one hop
pub lead_is : (plan : ContactPlan) (from : ℕ) (payload : List ℕ) (then : HopId) → hop_for plan from payload ≡ Some then → lead plan payload ≡ Some then
lead_is plan from payload then is = lead_by plan from (option_and_then (own_route plan) (destination_in payload)) then is

leads_ends : (stations : List StationPlan) (payload : List ℕ) (end : StationPlan) (m : ℕ) (s : StationPlan) (id : HopId) → lead s.plan payload ≡ Some id
    → Leads stations payload end m s id → ends stations payload m s ≡ true
leads_ends stations payload end zero s id led leads = absurd leads
leads_ends stations payload end (suc m) s id led (hop, takes, inl last) =
    ap (ends_by (ends stations payload m)) (follow_at stations payload s id hop led takes.there ∙ folder_next stations hop last.folder)
leads_ends stations payload end (suc m) s id led (hop, takes, inr (t, then, over, leads)) =
    ap (ends_by (ends stations payload m)) (follow_at stations payload s id hop led takes.there ∙ link_next stations payload s hop t then over)
    ∙ leads_ends stations payload end m t then (lead_is t.plan s.plan.station payload then over.next) leads

shorten : (stations : List StationPlan) (payload : List ℕ) (end : StationPlan) (n m : ℕ) (s : StationPlan) (id : HopId) → lead s.plan payload ≡ Some id
    → ends stations payload n s ≡ true → Leads stations payload end m s id → Leads stations payload end n s id
shorten stations payload end n zero s id led is leads = absurd leads
shorten stations payload end zero (suc m) s id led is leads = absurd (false≢true is)
shorten stations payload end (suc n) (suc m) s id led is (hop, takes, inl last) = (hop, takes, inl last)
shorten stations payload end (suc n) (suc m) s id led is (hop, takes, inr (t, then, over, leads)) =
    let next = follow_at stations payload s id hop led takes.there ∙ link_next stations payload s hop t then over in
    let later : ends stations payload n t ≡ true = sym (ap (ends_by (ends stations payload n)) next) ∙ is in
    (hop, takes, inr (t, then, over, shorten stations payload end n m t then (lead_is t.plan s.plan.station payload then over.next) later leads))

-- a way that leads into a folder at all does so over at most as many stations as there are
pub shortest : (stations : List StationPlan) (payload : List ℕ) (end : StationPlan) (m : ℕ) (s : StationPlan) (id : HopId) → Contains stations s
    → lead s.plan payload ≡ Some id → Leads stations payload end m s id → Leads stations payload end (length stations) s id
shortest stations payload end m s id member led leads =
    shorten stations payload end (length stations) m s id led (within stations payload m s member (leads_ends stations payload end m s id led leads)) leads
