-- The passes over the numbers of a plan, and the properties that they leave.
use Rattle.std.proofs.Common.{◌≡◌, ℕ, zero, suc, ◌+◌, ◌-◌, ◌<◌, ◌≤◌, ◌==◌, nat_le, ℤ, pos, negsuc, Bool, true, false, ◌&&◌, ◌||◌, List, [], ◌∷◌, map, length, drop, take, get_or, set, Option, Some, None, Result, Ok, Err, option_map, cond, not, if◌then◌else◌, inl, inr, get_or-set_same, get_or-set_other, refl, ◌∙◌, sym, ap, arith, leb-true, eq-eqb}
use Rattle.std.specs.List.{list_all, list_any}
use Rattle.std.specs.Option.{option_or}
use Rattle.std.proofs.lemmas.Bool.{and_parts, cases_eq, ne_eqb, false≢true}
use Rattle.std.proofs.lemmas.List.{drop_all, drop_more}
use Rattle.rly_core.specs.declared.limits.TheConstants.{MAX_CONTACTS, MAX_HOPS, MAX_PEERS, MOMENT_LIMIT}
use Rattle.rly_plan_syntax.specs.declared.draft.ContactDraft.{ContactDraft}
use Rattle.rly_plan_syntax.specs.declared.key_path.KeyPath.{KeyPath}
use Rattle.rly_plan_syntax.specs.declared.key_path.KeyPath.TheVariants.{In}
use Rattle.rly_plan_syntax.specs.declared.key_path.Row.{Row}
use Rattle.rly_plan_syntax.specs.declared.key_path.Spot.{Spot}
use Rattle.rly_plan_syntax.specs.declared.key_path.Spot.TheVariants.{Contact}
use Rattle.rly_core.specs.declared.refusal.Refusal.TheVariants.{Range}
use Rattle.rly_plan.specs.ContactPlan.{ContactPlan}
use Rattle.rly_plan.specs.HelpersContacts.{last_end}
use Rattle.rly_plan_syntax.specs.Draft.{HopText, PlanText}
use Rattle.rly_plan_syntax.specs.DocumentPaths.{unless}
use Rattle.rly_plan.specs.KeyPaths.{first_adjacent, first_repeat, first_row}
use Rattle.rly_plan.specs.Passes.{all_numbered, hop_in_range, is_in_range, lead_in_range, neighbour_in_range, plan_of_draft, rate_in_range, resend_in_range, route_in_range, rows_in_range, contact_in_range, all_adjacent, are_apart, repeats, contact_from}
use Rattle.rly_plan.specs.Numbers.{is_station, is_between, number}

abbrev pub none_of : (A : Type 0) → List A
none_of A = []

drop_of_none : {A : Type 0} (k : ℕ) → drop k (none_of A) ≡ []
drop_of_none zero = refl
drop_of_none (suc k) = refl

-- the last has no contact after it that could be at fault
none_adjacent : (test : ContactDraft → ContactDraft → Bool) (n : ℕ) (xs : List ContactDraft) (k : ℕ) → length xs ≤ k + 1 → first_adjacent test n (drop k xs) ≡ None
none_adjacent test n [] k past = rw (drop_of_none {A = ContactDraft} k)
none_adjacent test n (x ∷ []) zero past = refl
none_adjacent test n (x ∷ []) (suc k) past = rw (drop_of_none {A = ContactDraft} k)
none_adjacent test n (x ∷ y ∷ xs) zero past = absurd (omega arith)
none_adjacent test n (x ∷ y ∷ xs) (suc k) past = none_adjacent test n (y ∷ xs) k (omega arith)

pub none_adjacent_last : (test : ContactDraft → ContactDraft → Bool) (n : ℕ) (xs : List ContactDraft) (i : ℕ) → length xs ≤ i → first_adjacent test n (drop (i - 1) xs) ≡ None
none_adjacent_last test n xs i past = none_adjacent test n xs (i - 1) (omega arith)

-- the rows from one on
from_row : {A : Type 0} (fault : ℕ → A → Option Spot) (row : Row) (xs : List A) (i : ℕ) (x : A) (found : Option Spot) → i < length xs → x ≡ get_or xs i x → found ≡ fault (i + 1) x
    → first_row fault row (i + 1) (drop i xs) ≡ option_or (option_map (In row (i + 1)) found) (first_row fault row (i + 1 + 1) (drop (i + 1) xs))
from_row fault row xs i x found within is tells =
    ap (first_row fault row (i + 1)) (drop_more xs i x within)
    ∙ ap (λ y. first_row fault row (i + 1) (y ∷ drop (i + 1) xs)) (sym is)
    ∙ ap (λ o. option_or (option_map (In row (i + 1)) o) (first_row fault row (i + 1 + 1) (drop (i + 1) xs))) (sym tells)

-- a row without a fault leaves the result to those after it
pub row_passed : {A : Type 0} (fault : ℕ → A → Option Spot) (row : Row) (xs : List A) (i : ℕ) (x : A) (found : Option Spot) (all : Option KeyPath)
    → i < length xs → x ≡ get_or xs i x → found ≡ fault (i + 1) x → found ≡ None
    → first_row fault row (i + 1) (drop i xs) ≡ all → first_row fault row (i + 1 + 1) (drop (i + 1) xs) ≡ all
row_passed fault row xs i x found all within is tells none before =
    sym (from_row fault row xs i x found within is tells ∙ ap (λ o. option_or (option_map (In row (i + 1)) o) (first_row fault row (i + 1 + 1) (drop (i + 1) xs))) none) ∙ before

-- and one with a fault is the result
pub row_found : {A : Type 0} (fault : ℕ → A → Option Spot) (row : Row) (xs : List A) (i : ℕ) (x : A) (found : Option Spot) (spot : Spot) (all : Option KeyPath)
    → i < length xs → x ≡ get_or xs i x → found ≡ fault (i + 1) x → found ≡ Some spot
    → first_row fault row (i + 1) (drop i xs) ≡ all → Some (In row (i + 1) spot) ≡ all
row_found fault row xs i x found spot all within is tells some before =
    sym (from_row fault row xs i x found within is tells ∙ ap (λ o. option_or (option_map (In row (i + 1)) o) (first_row fault row (i + 1 + 1) (drop (i + 1) xs))) some) ∙ before

pub rows_passed : {A : Type 0} (fault : ℕ → A → Option Spot) (row : Row) (xs : List A) (i : ℕ) (all : Option KeyPath) → length xs ≤ i
    → first_row fault row (i + 1) (drop i xs) ≡ all → None ≡ all
rows_passed fault row xs i all past before = sym (ap (first_row fault row (i + 1)) (drop_all i xs past)) ∙ before

-- two more adjacent elements
from_adjacent : (test : ContactDraft → ContactDraft → Bool) (n : ℕ) (xs : List ContactDraft) (i : ℕ) (d e : ContactDraft) → 0 < i → i < length xs
    → first_adjacent test n (drop (i - 1) xs) ≡ option_or (unless (test (get_or xs (i - 1) d) (get_or xs i e)) (Contact (n + 1))) (first_adjacent test (n + 1) (drop i xs))
from_adjacent test n xs zero d e some within = absurd (omega arith)
from_adjacent test n xs (suc i) d e some within =
    let less : suc i - 1 ≡ i = omega arith in
    let first : i < length xs = omega arith in
    let more : suc i ≡ i + 1 = omega arith in
    rw (less, drop_more xs i d first, ← more, drop_more xs (suc i) e within)

pub adjacent_passed : (test : ContactDraft → ContactDraft → Bool) (xs : List ContactDraft) (i : ℕ) (d e : ContactDraft) (all : Option Spot) → 0 < i → i < length xs
    → test (get_or xs (i - 1) d) (get_or xs i e) ≡ true → first_adjacent test i (drop (i - 1) xs) ≡ all → first_adjacent test (i + 1) (drop (i + 1 - 1) xs) ≡ all
adjacent_passed test xs i d e all some within pass same =
    let less : i + 1 - 1 ≡ i = omega arith in
    rw (less, ← same, from_adjacent test i xs i d e some within, pass)

-- a row of another number leaves the result to those after it
pub other_row : {A : Type 0} (f : A → ℕ) (n : ℕ) (xs : List A) (i : ℕ) (x : A) (found : ℕ) (all : Bool) → i < length xs → x ≡ get_or xs i x → found ≡ f x → (found ≡ n → ⊥)
    → list_any (λ m. m == n) (map f (drop i xs)) ≡ all → list_any (λ m. m == n) (map f (drop (i + 1) xs)) ≡ all
other_row f n xs i x found all within is tells other before =
    let rest = list_any (λ m. m == n) (map f (drop (i + 1) xs)) in
    sym (ap (λ ys. list_any (λ m. m == n) (map f ys)) (drop_more xs i x within)
    ∙ ap (λ y. list_any (λ m. m == n) (map f (y ∷ drop (i + 1) xs))) (sym is)
    ∙ ap (λ m. (m == n) || rest) (sym tells) ∙ ap (λ b. b || rest) (ne_eqb found n other))
    ∙ before

-- a number within bounds
pub between_bounds : (least most : ℕ) (z : ℤ) → is_between least most z ≡ true → (least ≤ number z) × (number z ≤ most)
between_bounds least most (pos n) h =
    let (low, high) = and_parts (nat_le least n) (nat_le n most) h in
    (leb-true least n low, leb-true n most high)
between_bounds least most (negsuc n) h = absurd (false≢true h)

pub contact_bounds : (c : ContactDraft) → contact_in_range c ≡ true → (number c.begin < number c.end) × (number c.end < MOMENT_LIMIT)
contact_bounds c h =
    let (begins, ends) = and_parts (is_between 0 (MOMENT_LIMIT - 1) c.begin) (is_between (number c.begin + 1) (MOMENT_LIMIT - 1) c.end) h in
    let bounds = between_bounds (number c.begin + 1) (MOMENT_LIMIT - 1) c.end ends in
    (omega (arith, bounds.0), omega (arith, bounds.1))

-- a contact that stands apart begins when those before it have ended
pub ended_at : (ds : List ContactDraft) (i : ℕ) (d : ContactDraft) → all_adjacent are_apart ds ≡ true → i < length ds → last_end (map contact_from (take i ds)) ≤ number (get_or ds i d).begin
ended_at [] i d apart within = absurd (omega arith)
ended_at (x ∷ ds) zero d apart within = omega arith
ended_at (x ∷ []) (suc i) d apart within = absurd (omega arith)
ended_at (x ∷ y ∷ ds) (suc zero) d apart within = leb-true _ _ (and_parts (are_apart x y) (all_adjacent are_apart (y ∷ ds)) apart).0
ended_at (x ∷ y ∷ ds) (suc (suc i)) d apart within = ended_at (y ∷ ds) (suc i) d (and_parts (are_apart x y) (all_adjacent are_apart (y ∷ ds)) apart).1 (omega arith)

-- ---- marks of the numbers that were seen

abbrev pub is_marked : List Bool → ℕ → Bool
is_marked seen n = get_or seen n false

or_false : (b : Bool) → (b || false) ≡ b
or_false true = refl
or_false false = refl

or_true : (b : Bool) → (b || true) ≡ true
or_true true = refl
or_true false = refl

or_assoc : (a b c : Bool) → ((a || b) || c) ≡ (a || (b || c))
or_assoc true b c = refl
or_assoc false b c = refl

-- marking one more number
pub mark_one : (seen : List Bool) (x y : ℕ) → x < length seen → is_marked (set seen x true) y ≡ (is_marked seen y || (y == x))
mark_one seen x y within =
    elim (cases_eq y x) [
      | inl same ↦ rw (same, get_or-set_same, eq-eqb x x refl) (sym (or_true (get_or seen x false)))
      | inr other ↦ rw (get_or-set_other, ne_eqb y x other) (sym (or_false (get_or seen y false)))
    ]

or_swap : (a b c d : Bool) → ((a || b) || (c || d)) ≡ ((a || c) || (b || d))
or_swap true b c d = refl
or_swap false true true d = refl
or_swap false true false d = refl
or_swap false false c d = refl

marked_any : (seen : List Bool) (x : ℕ) (ys : List ℕ) → x < length seen
    → list_any (is_marked (set seen x true)) ys ≡ (list_any (is_marked seen) ys || list_any (λ y. y == x) ys)
marked_any seen x [] within = refl
marked_any seen x (y ∷ ys) within = rw (mark_one seen x y within, marked_any seen x ys within) (or_swap (is_marked seen y) (y == x) (list_any (is_marked seen) ys) (list_any (λ z. z == x) ys))

-- repeats after a number that was not marked
pub marked_more : (seen : List Bool) (x : ℕ) (ys : List ℕ) → x < length seen
    → (list_any (is_marked (set seen x true)) ys || repeats ys) ≡ (list_any (is_marked seen) ys || (list_any (λ y. y == x) ys || repeats ys))
marked_more seen x ys within = rw (marked_any seen x ys within) (or_assoc (list_any (is_marked seen) ys) (list_any (λ y. y == x) ys) (repeats ys))

-- ---- numbers that occur twice

any_unset : (seen : List Bool) (xs : List ℕ) → ((n : ℕ) → is_marked seen n ≡ false) → list_any (is_marked seen) xs ≡ false
any_unset seen [] unset = refl
any_unset seen (x ∷ xs) unset = rw (unset x) (any_unset seen xs unset)

pub none_marked : (seen : List Bool) (xs : List ℕ) → ((n : ℕ) → is_marked seen n ≡ false) → (list_any (is_marked seen) xs || repeats xs) ≡ repeats xs
none_marked seen [] unset = refl
none_marked seen (x ∷ xs) unset = rw (any_unset seen xs unset, unset x)

-- one more number, which was not marked
pub repeats_step : (seen : List Bool) (xs : List ℕ) (i : ℕ) (b : Bool) → i < length xs → get_or xs i 0 < length seen → b ≡ get_or seen (get_or xs i 0) b → b ≡ false
    → (list_any (is_marked seen) (drop i xs) || repeats (drop i xs)) ≡ repeats xs
    → (list_any (is_marked (set seen (get_or xs i 0) true)) (drop (i + 1) xs) || repeats (drop (i + 1) xs)) ≡ repeats xs
repeats_step seen xs i b within inside read unset same =
    let x = get_or xs i 0 in
    let off : is_marked seen x ≡ false = sym (rw unset at read) in
    let before = rw (drop_more xs i 0 within, off) at same in
    marked_more seen x (drop (i + 1) xs) inside ∙ before

-- the front of the remaining rows: its number occurs again later, or doesn't
repeat_front : {A : Type 0} (f : A → ℕ) (n : ℕ) (rest later : List A) (x : A) (b : Bool) → rest ≡ x ∷ later → list_any (λ y. y == f x) (map f later) ≡ b
    → first_repeat n (map f rest) ≡ cond b (Some n) (first_repeat (n + 1) (map f later))
repeat_front f n rest later x b split seen = rw (split, seen) refl

pub repeat_at_front : {A : Type 0} (f : A → ℕ) (count : ℕ) (rest later : List A) (x : A) → rest ≡ x ∷ later → length rest ≤ count
    → list_any (λ y. y == f x) (map f later) ≡ true → first_repeat (count - length rest + 1) (map f rest) ≡ Some (count - length later)
repeat_at_front f count rest later x split within seen =
    let less : length rest ≡ length later + 1 = rw split (omega arith) in
    let number : count - length rest + 1 ≡ count - length later = omega (arith, less, within) in
    rw number (repeat_front f (count - length later) rest later x true split seen)

pub repeat_after_front : {A : Type 0} (f : A → ℕ) (count : ℕ) (rest later : List A) (x : A) → rest ≡ x ∷ later → length rest ≤ count
    → list_any (λ y. y == f x) (map f later) ≡ false → first_repeat (count - length rest + 1) (map f rest) ≡ first_repeat (count - length later + 1) (map f later)
repeat_after_front f count rest later x split within seen =
    let less : length rest ≡ length later + 1 = rw split (omega arith) in
    let number : count - length rest + 1 ≡ count - length later = omega (arith, less, within) in
    rw number (repeat_front f (count - length later) rest later x false split seen)

-- ---- contacts in range

-- each number of a hop in range is
pub record HopParts (n : ℕ) (h : HopText) : Type 0 where
  pub neighbour : neighbour_in_range n h.neighbour ≡ true
  pub resend : resend_in_range h.resend ≡ true
  pub rate : rate_in_range h.rate ≡ true
  pub lead : lead_in_range h.lead ≡ true
  pub count : nat_le (length h.contacts) MAX_CONTACTS ≡ true
  pub contacts : list_all contact_in_range h.contacts ≡ true

pub hop_parts : (n : ℕ) (h : HopText) → hop_in_range n h ≡ true → HopParts n h
hop_parts n h ranged =
    let (neighbour, timed) = and_parts (neighbour_in_range n h.neighbour) (resend_in_range h.resend && (rate_in_range h.rate && (lead_in_range h.lead && (nat_le (length h.contacts) MAX_CONTACTS && list_all contact_in_range h.contacts)))) ranged in
    let (resend, paced) = and_parts (resend_in_range h.resend) (rate_in_range h.rate && (lead_in_range h.lead && (nat_le (length h.contacts) MAX_CONTACTS && list_all contact_in_range h.contacts))) timed in
    let (rate, led) = and_parts (rate_in_range h.rate) (lead_in_range h.lead && (nat_le (length h.contacts) MAX_CONTACTS && list_all contact_in_range h.contacts)) paced in
    let (lead, counted) = and_parts (lead_in_range h.lead) (nat_le (length h.contacts) MAX_CONTACTS && list_all contact_in_range h.contacts) led in
    let (count, contacts) = and_parts (nat_le (length h.contacts) MAX_CONTACTS) (list_all contact_in_range h.contacts) counted in
    record { neighbour = neighbour; resend = resend; rate = rate; lead = lead; count = count; contacts = contacts }

numbered_contacts : (n : ℕ) (hs : List HopText) → all_numbered hop_in_range n hs ≡ true → list_all (λ h. list_all contact_in_range h.contacts) hs ≡ true
numbered_contacts n [] ranged = refl
numbered_contacts n (h ∷ hs) ranged =
    let (here, more) = and_parts (hop_in_range n h) (all_numbered hop_in_range (n + 1) hs) ranged in
    rw ((hop_parts n h here).contacts) (numbered_contacts (n + 1) hs more)

-- in a plan in range each contact is
pub contacts_in_range : (d : PlanText) → is_in_range d ≡ true → list_all (λ h. list_all contact_in_range h.contacts) d.hops ≡ true
contacts_in_range d ranged =
    let station = and_parts (is_station d.station) (rows_in_range neighbour_in_range MAX_PEERS d.peers && (rows_in_range hop_in_range MAX_HOPS d.hops && list_all route_in_range d.routes)) ranged in
    let peers = and_parts (rows_in_range neighbour_in_range MAX_PEERS d.peers) (rows_in_range hop_in_range MAX_HOPS d.hops && list_all route_in_range d.routes) station.1 in
    let hops = and_parts (rows_in_range hop_in_range MAX_HOPS d.hops) (list_all route_in_range d.routes) peers.1 in
    let rows = and_parts (nat_le 1 (length d.hops) && nat_le (length d.hops) MAX_HOPS) (all_numbered hop_in_range 1 d.hops) hops.0 in
    numbered_contacts 1 d.hops rows.1

-- every plan is in range
unless_met : {A E : Type 0} (a : Bool) (fault : E) (rest : Result A E) (found : A) → (if not a then Err fault else rest) ≡ Ok found → a ≡ true
unless_met true fault rest found is = refl
unless_met false fault rest found is = absurd cc

pub ranged_first : (d : PlanText) (plan : ContactPlan) → plan_of_draft (Some d) ≡ Ok plan → is_in_range d ≡ true
ranged_first d plan is = unless_met (is_in_range d) Range _ plan is
