-- The numbers in flight, one after the other.
use Rattle.std.proofs.Common.{◌≡◌, ◌∙◌, ℕ, zero, suc, ◌+◌, ◌<◌, ◌≤◌, Bool, true, false, List, [], ◌∷◌, ◌++◌, ap, arith, cond, length, refl, sym, take}
use Rattle.std.proofs.Common.{inl, inr}
use Rattle.std.proofs.lemmas.Bool.Decides.{nat_tests}
use Rattle.std.specs.Prelude.{◌⊎◌, if◌then◌else◌, Option, Some, None, ◌&&◌, nat_lt}
use Rattle.std.specs.List.{filter, range_with_len}
use Rattle.std.proofs.lemmas.List.{append-nil, length-append, length-take, length-take-le, take-append-le, take_all}
use Rattle.std.proofs.lemmas.List.Elements.{filter-append}
use Rattle.rly_hop_pacing.specs.declared.scoreboard.Scoreboard.{Scoreboard}
use Rattle.rly_hop_pacing.specs.CongestionControl.{first_of, first_option}
use Rattle.rly_hop_pacing.specs.Scoreboards.{after_heard, heard_if}

pub heard-none : (b : Scoreboard) (told : ℕ → Bool) (at trip covered : ℕ) → after_heard b told at trip covered 0 ≡ b
unfolding after_heard
heard-none b told at trip covered = refl

heard-suc : (b : Scoreboard) (told : ℕ → Bool) (at trip covered place : ℕ)
    → after_heard b told at trip covered (suc place)
    ≡ heard_if (told (covered + place + 1)) (after_heard b told at trip covered place) at trip (covered + place + 1)
unfolding after_heard
heard-suc b told at trip covered place = refl

pub heard-more : (b : Scoreboard) (told : ℕ → Bool) (at trip covered place : ℕ)
    → after_heard b told at trip covered (place + 1)
    ≡ heard_if (told (covered + place + 1)) (after_heard b told at trip covered place) at trip (covered + place + 1)
heard-more b told at trip covered place =
    let next : place + 1 ≡ suc place = omega arith in
    ap (after_heard b told at trip covered) next ∙ heard-suc b told at trip covered place

pub range-more : (a n : ℕ) → range_with_len a (suc n) ≡ range_with_len a n ++ (a + n) ∷ []
range-more a zero = let same : a ≡ a + 0 = omega arith in ap (λ x. x ∷ []) same
range-more a (suc n) =
    let last : a + 1 + n ≡ a + suc n = omega arith in
    ap (λ l. a ∷ l) (range-more (a + 1) n ∙ ap (λ x. range_with_len (a + 1) n ++ x ∷ []) last)

-- a number that passes a test, or none
pub passing : Bool → ℕ → List ℕ
passing true x = x ∷ []
passing false x = []

filter-one : (is : Bool) (x : ℕ) → cond is (x ∷ []) [] ≡ passing is x
unfolding passing
filter-one true x = refl
filter-one false x = refl

-- one more number is tested
pub filter-more : (p : ℕ → Bool) (a n : ℕ) → filter p (range_with_len a (n + 1)) ≡ filter p (range_with_len a n) ++ passing (p (a + n)) (a + n)
filter-more p a n =
    let next : n + 1 ≡ suc n = omega arith in
    ap (λ m. filter p (range_with_len a m)) next
    ∙ ap (filter p) (range-more a n)
    ∙ filter-append p (range_with_len a n) ((a + n) ∷ [])
    ∙ ap (λ l. filter p (range_with_len a n) ++ l) (filter-one (p (a + n)) (a + n))

few-more : (is : Bool) (x : ℕ) (l : List ℕ) (n : ℕ) → length l ≤ n → length (cond is (x ∷ l) l) ≤ suc n
few-more true x l n few = omega (arith, few)
few-more false x l n few = omega (arith, few)

-- no more numbers pass than are tested
pub filter-few : (p : ℕ → Bool) (a n : ℕ) → length (filter p (range_with_len a n)) ≤ n
filter-few p a zero = omega arith
filter-few p a (suc n) = few-more (p a) a (filter p (range_with_len (a + 1) n)) n (filter-few p (a + 1) n)

length-passing : (is : Bool) (x : ℕ) → length (passing is x) ≡ cond is 1 0
unfolding passing
length-passing true x = refl
length-passing false x = refl

-- the count of those that pass, with one more number
pub counted-more : (p : ℕ → Bool) (a n count more : ℕ) → count ≡ length (filter p (range_with_len a n)) → more ≡ count + (if p (a + n) then 1 else 0)
    → more ≡ length (filter p (range_with_len a (n + 1)))
counted-more p a n count more so_far is =
    is ∙ ap (λ c. c + (if p (a + n) then 1 else 0)) so_far
    ∙ ap (λ c. length (filter p (range_with_len a n)) + c) (sym (length-passing (p (a + n)) (a + n)))
    ∙ sym (length-append (filter p (range_with_len a n)) (passing (p (a + n)) (a + n)))
    ∙ ap length (sym (filter-more p a n))

le_or_gt : (a b : ℕ) → (a ≤ b) ⊎ (b < a)
le_or_gt a b = grind arith

listed-true : (most x : ℕ) (l all : List ℕ) → l ≡ take most all → (most ≤ length all) ⊎ (length all < most)
    → (if nat_lt (length l) most && true then l ++ x ∷ [] else l) ≡ take most (all ++ x ∷ [])
listed-true most x l all is (inl full) =
    let long : length l ≡ most = ap length is ∙ length-take-le most all full in
    let no : (nat_lt (length l) most && true) ≡ false = grind (arith, nat_tests) in
    ap (λ b. if b then l ++ x ∷ [] else l) no ∙ is ∙ sym (take-append-le most all (x ∷ []) full)
listed-true most x l all is (inr some) =
    let whole : l ≡ all = is ∙ take_all most all (omega (arith, some)) in
    let yes : (nat_lt (length all) most && true) ≡ true = grind (arith, nat_tests) in
    let fits : length (all ++ x ∷ []) ≤ most = omega (arith, length-append all (x ∷ []), some) in
    ap (λ m. if nat_lt (length m) most && true then m ++ x ∷ [] else m) whole
    ∙ ap (λ b. if b then all ++ x ∷ [] else all) yes ∙ sym (take_all most (all ++ x ∷ []) fits)

-- the list with one more number, if it passes and there is room
listed : (most x : ℕ) (l all : List ℕ) (is : Bool) → l ≡ take most all
    → (if nat_lt (length l) most && is then l ++ x ∷ [] else l) ≡ take most (all ++ passing is x)
unfolding passing
listed most x l all false is =
    let no : (nat_lt (length l) most && false) ≡ false = grind arith in
    ap (λ b. if b then l ++ x ∷ [] else l) no ∙ is ∙ ap (take most) (sym (append-nil all))
listed most x l all true is = listed-true most x l all is (le_or_gt most (length all))

pub listed-more : (p : ℕ → Bool) (most a n : ℕ) (l more : List ℕ) → l ≡ take most (filter p (range_with_len a n))
    → more ≡ (if nat_lt (length l) most && p (a + n) then l ++ (a + n) ∷ [] else l) → more ≡ take most (filter p (range_with_len a (n + 1)))
listed-more p most a n l more so_far is =
    is ∙ listed most (a + n) l (filter p (range_with_len a n)) (p (a + n)) so_far ∙ ap (take most) (sym (filter-more p a n))

-- the first that passes, with one more number
first-append : (l : List ℕ) (is : Bool) (x : ℕ) → first_option (first_of l) (if is then Some x else None) ≡ first_of (l ++ passing is x)
unfolding passing
first-append [] true x = refl
first-append [] false x = refl
first-append (y ∷ l) is x = refl

pub first-more : (p : ℕ → Bool) (a n : ℕ) (found more : Option ℕ) → found ≡ first_of (filter p (range_with_len a n))
    → more ≡ first_option found (if p (a + n) then Some (a + n) else None) → more ≡ first_of (filter p (range_with_len a (n + 1)))
first-more p a n found more so_far is =
    is ∙ ap (λ f. first_option f (if p (a + n) then Some (a + n) else None)) so_far
    ∙ first-append (filter p (range_with_len a n)) (p (a + n)) (a + n) ∙ ap first_of (sym (filter-more p a n))

-- no more are listed than were tested
pub listed-few : (p : ℕ → Bool) (most a n : ℕ) (l : List ℕ) → l ≡ take most (filter p (range_with_len a n)) → length l ≤ n
listed-few p most a n l is =
    omega (arith, ap length is, length-take most (filter p (range_with_len a n)), filter-few p a n)
