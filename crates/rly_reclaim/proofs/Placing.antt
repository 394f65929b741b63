-- Payloads by device address that lie in another segment, and the segments without payloads.
use Rattle.std.proofs.Common.{ℕ, ◌≡◌, ◌≢◌, ◌+◌, ◌*◌, ◌-◌, ◌/◌, ◌%◌, ◌<◌, ◌≤◌, ◌^◌, Bool, true, false, cond, eqb, List, [], ◌∷◌, ◌++◌, length, get_or, map, arith, refl, sym, ap, subst, ◌∙◌}
use Rattle.std.specs.Prelude.{◌↔◌, All, IfSome, None, Option, Some}
use Rattle.std.specs.Option.{is_some}
use Rattle.std.specs.List.{flat_map}
use Rattle.std.proofs.lemmas.Bool.{eq-eqb, false≢true, ne_eqb}
use Rattle.std.proofs.lemmas.List.{get_or-append-add, get_or_append_left, length-append}
use Rattle.std.proofs.lemmas.List.Elements.{All-append, All-cons, All-head, All-map, All-nil, All-tail}
use Rattle.std.proofs.lemmas.Nat.{div-add-mod'}
use Rattle.rly_core.specs.declared.params.Geometry.{Geometry}
use Rattle.std.proofs.lemmas.List.Sums.{get_or-le-sum_by}
use Rattle.rly_machine.specs.declared.hop.Hop.{Hop}
use Rattle.rly_machine.specs.declared.hop.Item.{Item}
use Rattle.rly_machine.specs.Kept.{hop_state}
use Rattle.rly_machine.specs.Sound.{IsSound}
use Rattle.rly_segment_checkpoint.specs.Stored.{stored_length}
use Rattle.rly_segment_checkpoint.proofs.Totals.{hop_among}
use Rattle.rly_reclaim.proofs.Weights.{bytes_less}
use Rattle.rly_machine.specs.Map.{payloads_of}
use Rattle.rly_machine.specs.State.{HopState, State, live_line}
use Rattle.rly_segment_checkpoint.specs.declared.stored.DeviceAddress.{DeviceAddress}
use Rattle.rly_segment_checkpoint.specs.declared.stored.Stored.{Stored}
use Rattle.rly_segment_checkpoint.specs.declared.stored.Stored.TheVariants.{Inline, Placed}
use Rattle.rly_reclaim.specs.SegmentChoice.{IsFree, MayOpen, NoneIsFree}
use Rattle.rly_reclaim.specs.Placed.{HoldsNone, IsPlaced, LiesElsewhere}
use Rattle.rly_reclaim.specs.Places.{LiesIn, LiesNotIn, bytes_in, live_by_segment, live_in, segment_of}
use Rattle.rly_reclaim.proofs.Emptying.{each_none, in_segment, may_open, none_each, payloads_sum}
use Rattle.rly_reclaim.proofs.LiveRooms.{live_at, live_length}

-- ---- one device address

-- if it is short enough for the rest of its segment, it lies there
pub lies_there : (g : Geometry) (place : DeviceAddress) → 64 ≤ place.start → (place.start - 64) / g.length < g.segments
    → (place.start - 64) % g.length + place.length ≤ g.length → LiesIn g ((place.start - 64) / g.length) place
lies_there g place past below within =
    let whole = div-add-mod' (place.start - 64) g.length in
    record { there = below; from = omega (arith, whole, past); to = omega (arith, whole, past, within) }

-- and only there
pub segment_once : (g : Geometry) (segment : ℕ) (place : DeviceAddress) → 1 ≤ place.length → LiesIn g segment place → (place.start - 64) / g.length ≡ segment
segment_once g segment place some lies = in_segment g segment (place.start - 64) (omega (arith, lies.from)) (omega (arith, lies.from, lies.to, some))

pub short_enough : (g : Geometry) (segment : ℕ) (place : DeviceAddress) → 1 ≤ place.length → LiesIn g segment place
    → (place.start - 64) % g.length + place.length ≤ g.length
short_enough g segment place some lies =
    let whole = div-add-mod' (place.start - 64) g.length in
    let here : (place.start - 64) / g.length * g.length ≡ segment * g.length = ap (λ (n : ℕ). n * g.length) (segment_once g segment place some lies) in
    omega (arith, whole, here, lies.from, lies.to)

-- ---- all payloads of a state

all_left : {A : Type 0} (T : A → Type 0) (xs ys : List A) → All T (xs ++ ys) → All T xs
all_left T xs ys all k d lt = subst T (get_or_append_left xs ys d k lt) (all k d (omega (arith, lt, length-append xs ys)))

all_right : {A : Type 0} (T : A → Type 0) (xs ys : List A) → All T (xs ++ ys) → All T ys
all_right T xs ys all k d lt = subst T (get_or-append-add xs ys k d) (all (length xs + k) d (omega (arith, lt, length-append xs ys)))

from_map : {X Y : Type 0} (T : Y → Type 0) (f : X → Y) (xs : List X) → All T (map f xs) → All (λ x. T (f x)) xs
from_map T f [] all = All-nil (λ x. T (f x))
from_map T f (x ∷ xs) all = All-cons (λ y. T (f y)) x xs (All-head T (f x) (map f xs) all) (from_map T f xs (All-tail T (f x) (map f xs) all))

-- a property of each item's payload, hop by hop, is one of each payload
pub of_payloads : {P : Type 0} (T : P → Type 0) (hops : List (HopState P)) → All (λ h. All (λ item. T item.payload) (live_line h)) hops
    → All T (flat_map (λ h. map (λ item. item.payload) (live_line h)) hops)
of_payloads T [] all = All-nil T
of_payloads {P} T (h ∷ hops) all =
    let each : HopState P → Type 0 = λ x. All (λ (item : Item P). T item.payload) (live_line x) in
    let names : HopState P → List P = λ x. map (λ (item : Item P). item.payload) (live_line x) in
    All-append T (names h) (flat_map names hops) (All-map T (λ (item : Item P). item.payload) (live_line h) (All-head each h hops all)) (of_payloads T hops (All-tail each h hops all))

pub of_items : {P : Type 0} (T : P → Type 0) (hops : List (HopState P))
    → All T (flat_map (λ h. map (λ item. item.payload) (live_line h)) hops) → All (λ h. All (λ item. T item.payload) (live_line h)) hops
of_items {P} T [] all = let each : HopState P → Type 0 = λ x. All (λ (item : Item P). T item.payload) (live_line x) in All-nil each
of_items {P} T (h ∷ hops) all =
    let each : HopState P → Type 0 = λ x. All (λ (item : Item P). T item.payload) (live_line x) in
    let names : HopState P → List P = λ x. map (λ (item : Item P). item.payload) (live_line x) in
    All-cons each h hops (from_map T (λ (item : Item P). item.payload) (live_line h) (all_left T (names h) (flat_map names hops) all))
    (of_items T hops (all_right T (names h) (flat_map names hops) all))

-- ---- segments without payloads

-- a payload in another segment has no bytes in a segment if and only if it doesn't lie there
no_bytes : (g : Geometry) (own segment : ℕ) (p : Stored) → LiesElsewhere g own p → LiesNotIn g segment p → bytes_in g segment p ≡ 0
no_bytes g own segment (Inline payload) elsewhere none = refl
no_bytes g own segment (Placed place) elsewhere none =
    let lies = elsewhere.1.2 in
    let here = segment_once g elsewhere.1.0 place elsewhere.0 lies in
    let apart : segment_of g place.start ≢ segment = λ same. none (subst (λ (t : ℕ). LiesIn g t place) (sym here ∙ same) lies) in
    ap (λ (b : Bool). cond b place.length 0) (ne_eqb (segment_of g place.start) segment apart)

lies_not : (g : Geometry) (own segment : ℕ) (p : Stored) → LiesElsewhere g own p → bytes_in g segment p ≡ 0 → LiesNotIn g segment p
lies_not g own segment (Inline payload) elsewhere none = tt
lies_not g own segment (Placed place) elsewhere none = λ lies.
    omega (arith, none, all (segment_once g segment place elsewhere.0 lies), elsewhere.0)
  where
    all : segment_of g place.start ≡ segment → bytes_in g segment (Placed place) ≡ place.length
    all here = ap (λ (b : Bool). cond b place.length 0) (eq-eqb (segment_of g place.start) segment here)

-- a segment may be opened if and only if no payload lies in it
pub holds_none : (g : Geometry) (own segment : ℕ) (s : State Stored) → All (LiesElsewhere g own) (payloads_of s)
    → MayOpen (live_by_segment g s) own segment → HoldsNone g own segment s
holds_none g own segment s elsewhere may =
    let below : segment < g.segments = omega (arith, may.there, live_length g s) in
    let none : live_in g segment s ≡ 0 = sym (live_at g s segment below) ∙ may.empty in
    record {
      there = below;
      other = may.other;
      none = λ k d lt. lies_not g own segment (get_or (payloads_of s) k d) (elsewhere k d lt)
          (none_each (bytes_in g segment) (payloads_of s) (payloads_sum (bytes_in g segment) s ∙ none) k d lt);
    }

pub none_may_open : (g : Geometry) (own segment : ℕ) (s : State Stored) → All (LiesElsewhere g own) (payloads_of s)
    → HoldsNone g own segment s → MayOpen (live_by_segment g s) own segment
none_may_open g own segment s elsewhere holds =
    may_open g own segment s holds.there holds.other
    (sym (payloads_sum (bytes_in g segment) s)
    ∙ each_none (bytes_in g segment) (payloads_of s)
    (λ k d lt. no_bytes g own segment (get_or (payloads_of s) k d) (elsewhere k d lt) (holds.none k d lt)))

-- so a state is placed if and only if there is a free segment
pub placed_free : (g : Geometry) (own free : ℕ) (s : State Stored) → All (LiesElsewhere g own) (payloads_of s)
    → IsFree (live_by_segment g s) own free → IsPlaced g own s
placed_free g own free s elsewhere found = record {
  elsewhere = elsewhere;
  left = (free, holds_none g own free s elsewhere found.may_open);
}

pub not_placed : (g : Geometry) (own : ℕ) (s : State Stored) → NoneIsFree (live_by_segment g s) own → IsPlaced g own s → ⊥
not_placed g own s none placed = none placed.left.0 (none_may_open g own placed.left.0 s placed.elsewhere placed.left.1)

pub free_decides : (g : Geometry) (own : ℕ) (s : State Stored) (live : List ℕ) (o : Option ℕ) (found : Bool) → All (LiesElsewhere g own) (payloads_of s)
    → live ≡ live_by_segment g s → IfSome o (λ segment. IsFree live own segment) → (o ≡ None → NoneIsFree live own) → found ≡ is_some o
    → (found ≡ true) ↔ IsPlaced g own s
free_decides g own s live (Some free) found elsewhere same is_free none is =
    (λ test. placed_free g own free s elsewhere (subst (λ (l : List ℕ). IsFree l own free) same is_free), λ placed. is)
free_decides g own s live None found elsewhere same is_free none is = (
  λ test. absurd (false≢true (sym is ∙ test)),
  λ placed. absurd (not_placed g own s (subst (λ (l : List ℕ). NoneIsFree l own) same (none refl)) placed),
)

-- ---- the counters

bytes_within : (g : Geometry) (segment : ℕ) (p : Stored) → bytes_in g segment p ≤ stored_length p
bytes_within g segment (Inline payload) = omega arith
bytes_within g segment (Placed place) = by_cases (eqb (segment_of g place.start) segment)
  where
    by_cases : (b : Bool) → cond b place.length 0 ≤ place.length
    by_cases true = omega arith
    by_cases false = omega arith

-- no segment has more live bytes than the limit of the spool
pub few_live : (g : Geometry) (segment : ℕ) (s : State Stored) → IsSound stored_length s → live_in g segment s < 2 ^ 64
few_live g segment s sound = omega (arith, bytes_less (bytes_in g segment) stored_length (bytes_within g segment) s, sound.bytes, sound.params.bytes.1)

-- no hop has more items than the limit of the spool
pub hops_are_short : (s : State Stored) → IsSound stored_length s → All (λ h. length (live_line h) < 2 ^ 64) s.hops
hops_are_short s sound = λ k d lt.
    let count : HopState Stored → ℕ = λ h. length (live_line h) in
    omega (arith, get_or-le-sum_by count s.hops k d lt, sound.items, sound.params.items.1)

pub hop_is_short : (s : State Stored) → IsSound stored_length s → (hops : List (Hop Stored)) (i : ℕ) (hop : Hop Stored) → map hop_state hops ≡ s.hops
    → i < length hops → hop ≡ get_or hops i hop → length (live_line (hop_state hop)) < 2 ^ 64
hop_is_short s sound hops i hop same below read =
    let Short : HopState Stored → Type 0 = λ h. length (live_line h) < 2 ^ 64 in
    hop_among Short hops i hop below read (subst (All Short) (sym same) (hops_are_short s sound))
