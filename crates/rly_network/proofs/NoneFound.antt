-- What follows where nothing was found.
use Rattle.std.proofs.Common.{◌≡◌, ℕ, zero, suc, ◌+◌, ◌≤◌, Bool, true, false, cond, List, [], ◌∷◌, ◌++◌, length, Option, Some, find, refl, arith}
use Rattle.std.specs.List.{All, Contains, enumerate_from, flat_map}
use Rattle.std.proofs.lemmas.List.Elements.{All-cons, All-contains, All-head, All-nil, All-tail}
use Rattle.std.proofs.lemmas.Option.{get_or_from_slice_get, none-some, same_Some, slice_get_within}
use Rattle.rly_plan.specs.ContactPlan.{at_number}
use Rattle.rly_plan.specs.declared.plan.NextHop.{NextHop}
use Rattle.rly_network.specs.Check.{device_conflicts, disagreements, same_stations, station_conflicts}
use Rattle.rly_network.specs.Disagreements.{found_if}
use Rattle.rly_network.specs.Links.{hop_conflicts}
use Rattle.rly_network.specs.Paths.{peer_conflicts, route_conflicts}
use Rattle.rly_network.specs.declared.disagreement.Disagreement.{Disagreement}
use Rattle.rly_network.specs.declared.station_plan.StationPlan.{StationPlan}

pub nil_front : {Y : Type 0} (xs ys : List Y) → xs ++ ys ≡ [] → xs ≡ []
nil_front [] ys none = refl
nil_front (x ∷ xs) ys none = grind arith

pub nil_back : {Y : Type 0} (xs ys : List Y) → xs ++ ys ≡ [] → ys ≡ []
nil_back [] ys none = none
nil_back (x ∷ xs) ys none = grind arith

pub found_none : (is : Bool) (d : Disagreement) → found_if is d ≡ [] → is ≡ false
found_none true d none = grind arith
found_none false d none = refl

pub each_none : {X Y : Type 0} (f : X → List Y) (xs : List X) → flat_map f xs ≡ [] → All (λ x. f x ≡ []) xs
each_none f [] none = All-nil (λ x. f x ≡ [])
each_none f (x ∷ xs) none = All-cons (λ y. f y ≡ []) x xs (nil_front (f x) (flat_map f xs) none) (each_none f xs (nil_back (f x) (flat_map f xs) none))

-- of numbered rows
pub numbered_none : {X Y : Type 0} (f : ℕ × X → List Y) (n : ℕ) (xs : List X) → flat_map f (enumerate_from n xs) ≡ [] → All (λ x. (k : ℕ) × (f (k, x) ≡ [])) xs
numbered_none f n [] none = All-nil (λ x. (k : ℕ) × (f (k, x) ≡ []))
numbered_none f n (x ∷ xs) none =
    All-cons (λ y. (k : ℕ) × (f (k, y) ≡ [])) x xs (n, nil_front (f (n, x)) (flat_map f (enumerate_from (n + 1) xs)) none)
    (numbered_none f (n + 1) xs (nil_back (f (n, x)) (flat_map f (enumerate_from (n + 1) xs)) none))

-- nothing was found of a station
pub record NoneOf (stations : List StationPlan) (s : StationPlan) : Type 0 where
  pub device : device_conflicts s ≡ []
  pub hops : All (λ h. (k : ℕ) × (hop_conflicts stations s (k, h) ≡ [])) s.plan.hops
  pub peers : All (λ p. (k : ℕ) × (peer_conflicts stations s (k, p) ≡ [])) s.plan.peers
  pub routes : All (λ r. (k : ℕ) × (route_conflicts stations s (k, r) ≡ [])) s.plan.routes

pub none_by : (stations : List StationPlan) (s : StationPlan) → station_conflicts stations s ≡ [] → NoneOf stations s
none_by stations s none =
    let hops = flat_map (hop_conflicts stations s) (enumerate_from 1 s.plan.hops) in
    let peers = flat_map (peer_conflicts stations s) (enumerate_from 1 s.plan.peers) in
    let routes = flat_map (route_conflicts stations s) (enumerate_from 1 s.plan.routes) in
    let before_routes = nil_front (device_conflicts s ++ hops ++ peers) routes none in
    let before_peers = nil_front (device_conflicts s ++ hops) peers before_routes in
    record {
      device = nil_front (device_conflicts s) hops before_peers;
      hops = numbered_none (hop_conflicts stations s) 1 s.plan.hops (nil_back (device_conflicts s) hops before_peers);
      peers = numbered_none (peer_conflicts stations s) 1 s.plan.peers (nil_back (device_conflicts s ++ hops) peers before_routes);
      routes = numbered_none (route_conflicts stations s) 1 s.plan.routes (nil_back (device_conflicts s ++ hops ++ peers) routes none);
    }

pub none_of : (stations : List StationPlan) (s : StationPlan) → disagreements stations ≡ [] → Contains stations s → NoneOf stations s
none_of stations s none member =
    none_by stations s (All-contains (λ t. station_conflicts stations t ≡ []) stations s (each_none (station_conflicts stations) stations
    (nil_back (same_stations stations) (flat_map (station_conflicts stations) stations) none)) member)

-- ---- what is found in a list

find_by : {X : Type 0} (P : X → Type 0) (test : X → Bool) (y x : X) (b : Bool) (later : Option X) → test y ≡ b → P y
    → (later ≡ Some x → P x × (test x ≡ true)) → cond b (Some y) later ≡ Some x → P x × (test x ≡ true)
find_by P test y x true later is at rest found = rw (← same_Some y x found) (at, is)
find_by P test y x false later is at rest found = rest found

-- an element that is found passes the test, and has what each has
pub find_sound : {X : Type 0} (P : X → Type 0) (test : X → Bool) (xs : List X) (x : X) → All P xs → find test xs ≡ Some x → P x × (test x ≡ true)
find_sound P test [] x all found = absurd (none-some x found)
find_sound P test (y ∷ ys) x all found =
    find_by P test y x (test y) (find test ys) refl (All-head P y ys all) (λ later. find_sound P test ys x (All-tail P y ys all) later) found

pub number_in : {X : Type 0} (xs : List X) (n : ℕ) (x : X) → at_number xs n ≡ Some x → (1 ≤ n) × (n ≤ length xs) × Contains xs x
number_in xs zero x found = absurd (none-some x found)
number_in xs (suc n) x found =
    let within = slice_get_within xs n x found in
    (omega arith, omega (arith, within), (n, within, get_or_from_slice_get xs n x x found))

-- nothing was found of the hop of an id
pub hop_none : (stations : List StationPlan) (s : StationPlan) (n : ℕ) (hop : NextHop) → NoneOf stations s → at_number s.plan.hops n ≡ Some hop
    → (k : ℕ) × (hop_conflicts stations s (k, hop) ≡ [])
hop_none stations s n hop none there =
    All-contains (λ h. (k : ℕ) × (hop_conflicts stations s (k, h) ≡ [])) s.plan.hops hop none.hops (number_in s.plan.hops n hop there).2
