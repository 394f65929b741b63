-- The numbers of `sent/`, and whether they go on from the station's.
use Rattle.std.proofs.Common.{[], arith, Bool, false, true, inl, inr, List, refl, sym, ⊎_elim, ℕ, suc, zero, length, slice_index, ◌+◌, ◌-◌, ◌≤◌, ◌<◌, ◌≡◌, ◌⊎◌, ◌∙◌}
use Rattle.std.proofs.lemmas.Bool.{cases_lt}
use Rattle.std.proofs.lemmas.Bool.Decides.{nat_tests}
use Rattle.std.proofs.lemmas.Grind.{get_or_default_zero}
use Rattle.std.specs.List.{Contains}
use Rattle.std.specs.List.Sorted.{IsStrictlyIncreasing}
use Rattle.std.specs.Prelude.{◌==◌, ◌&&◌, ◌||◌, nat_le, nat_lt}
use Rattle.rly_link_folder.specs.InboxCalls.{AreEnds, GoesOn}

module _ (xs : List ℕ) (inc : IsStrictlyIncreasing xs) where
  grows : (j d : ℕ) → j + d < length xs → slice_index xs j + d ≤ slice_index xs (j + d)
  grows j zero lt = let e : j + 0 ≡ j = omega arith in rw e (omega arith)
  grows j (suc d) lt = let e : j + suc d ≡ (j + d) + 1 = omega arith in
      rw e (omega (arith, grows j d (omega (arith, lt)), inc (j + d) (omega (arith, lt))))

  at_most : (j k : ℕ) → j ≤ k → k < length xs → slice_index xs j + (k - j) ≤ slice_index xs k
  at_most j k le lt = let e : j + (k - j) ≡ k = omega (arith, le) in rw e at (grows j (k - j) (omega (arith, le, lt)))

  is_in : (k n : ℕ) → k < length xs → slice_index xs k ≡ n → Contains xs n
  is_in k n lt is = (k, lt, get_or_default_zero xs k n lt ∙ is)

  at_index : (n : ℕ) (has : Contains xs n) → slice_index xs has.0 ≡ n
  at_index n has = sym (get_or_default_zero xs has.0 n has.1) ∙ has.2

  module _ (some : 0 < length xs) (a g : ℕ) (last : slice_index xs (length xs - 1) ≡ g) where
    pub below_last : (n : ℕ) → Contains xs n → n ≤ g
    below_last n has = omega (arith, at_most has.0 (length xs - 1) (omega (arith, has.1, some)) (omega (arith, some)), at_index n has, last)

    pub last_in : Contains xs g
    last_in = is_in (length xs - 1) g (omega (arith, some)) last

    above_first : (n : ℕ) → Contains xs n → slice_index xs 0 ≤ n
    above_first n has = omega (arith, at_most 0 has.0 (omega arith) has.1, at_index n has)

    ends : (f : ℕ) → slice_index xs 0 ≡ f → AreEnds f g xs
    ends f first = record {
      least_in = is_in 0 f some first;
      greatest_in = last_in;
      within = λ n has. (omega (arith, above_first n has, first), below_last n has);
    }

    all_there : a < g → g - a ≤ length xs → slice_index xs (length xs - (g - a)) ≡ a + 1 → (n : ℕ) → a < n → n ≤ g → Contains xs n
    all_there less fit first n above le =
        let k : ℕ = length xs - 1 - (g - n) in
        let low = at_most (length xs - (g - a)) k (omega (arith, less, fit, above, le)) (omega (arith, some)) in
        let high = at_most k (length xs - 1) (omega arith) (omega (arith, some)) in
        is_in k n (omega (arith, some)) (omega (arith, low, high, first, last, less, fit, above, le, some))

    pub goes : (a ≡ g) ⊎ ((a < g) × (g - a ≤ length xs) × (slice_index xs (length xs - (g - a)) ≡ a + 1)) → GoesOn a g xs
    goes way = record {
      within = ⊎_elim (λ same. omega (arith, same)) (λ on. omega (arith, on.0)) way;
      each = λ n above le. ⊎_elim (λ same. absurd (omega (arith, same, above, le))) (λ on. all_there on.0 on.1 on.2 n above le) way;
      bound = below_last;
      reached = inr last_in;
    }

    -- from the greatest number down
    down : ((n : ℕ) → a < n → n ≤ g → Contains xs n) → (d : ℕ) → a + d < g → (d < length xs) × (slice_index xs (length xs - 1 - d) ≡ g - d)
    down all zero lt = let e : length xs - 1 - 0 ≡ length xs - 1 = omega arith in (some, rw e (omega (arith, last)))
    down all (suc d) lt =
        let above = down all d (omega (arith, lt)) in
        let has = all (g - suc d) (omega (arith, lt)) (omega arith) in
        let is = at_index (g - suc d) has in
        let high = at_most has.0 (length xs - 1) (omega (arith, has.1)) (omega (arith, some)) in
        let under : has.0 < length xs - 1 - d = ⊎_elim (λ less. less)
        (λ le. absurd (omega (arith, at_most (length xs - 1 - d) has.0 le has.1, above.1, is, lt))) (cases_lt has.0 (length xs - 1 - d)) in
        let place : has.0 ≡ length xs - 1 - suc d = omega (arith, under, high, is, last, lt) in
        (omega (arith, under), rw place at is)

    pub only_so : (l : ℕ) → GoesOn a l xs → (a ≡ g) ⊎ ((a < g) × (g - a ≤ length xs) × (slice_index xs (length xs - (g - a)) ≡ a + 1))
    only_so l on = ⊎_elim (λ less. inr (so less)) (λ le. inl (omega (arith, le, is_last, on.within))) (cases_lt a g)
      where
        is_last : l ≡ g
        is_last = ⊎_elim (λ none. absurd (empty none)) (λ has. omega (arith, below_last l has, on.bound g last_in)) on.reached
          where
            empty : xs ≡ [] → ⊥
            empty none = let e : length xs ≡ 0 = rw none refl in omega (arith, e, some)

        so : a < g → (a < g) × (g - a ≤ length xs) × (slice_index xs (length xs - (g - a)) ≡ a + 1)
        so less = let first = down (λ n above le. on.each n above (omega (arith, le, is_last))) (g - a - 1) (omega (arith, less)) in
            let e : length xs - 1 - (g - a - 1) ≡ length xs - (g - a) = omega (arith, less) in
            (less, omega (arith, first.0, less), (rw e at first.1) ∙ omega (arith, less))

-- the test of it
abbrev pub test : ℕ → ℕ → List ℕ → Bool
test a g xs = (a == g) || (nat_lt a g && nat_le (g - a) (length xs) && (slice_index xs (length xs - (g - a)) == a + 1))

passes : (a g len first : ℕ) → ((a == g) || (nat_lt a g && nat_le (g - a) len && (first == a + 1))) ≡ true
    → (a ≡ g) ⊎ ((a < g) × (g - a ≤ len) × (first ≡ a + 1))
passes a g len first is = grind (arith, nat_tests)

fails : (a g len first : ℕ) → ((a == g) || (nat_lt a g && nat_le (g - a) len && (first == a + 1))) ≡ false
    → (a ≡ g) ⊎ ((a < g) × (g - a ≤ len) × (first ≡ a + 1)) → ⊥
fails a g len first is way = ⊎_elim (λ same. grind (arith, nat_tests)) (λ on. grind (arith, nat_tests)) way

some_number : (n : ℕ) → (n == 0) ≡ false → 0 < n
some_number n is = grind (arith, nat_tests)

pub goes_on : (a g : ℕ) (xs : List ℕ) → (length xs == 0) ≡ false → g ≡ slice_index xs (length xs - 1) → test a g xs ≡ true
    → IsStrictlyIncreasing xs → GoesOn a g xs
goes_on a g xs some last is inc = goes xs inc (some_number _ some) a g (sym last) (passes a g _ _ is)

pub is_apart : (a f g : ℕ) (xs : List ℕ) → (length xs == 0) ≡ false → f ≡ slice_index xs 0 → g ≡ slice_index xs (length xs - 1)
    → test a g xs ≡ false → IsStrictlyIncreasing xs → ((l : ℕ) → GoesOn a l xs → ⊥) × AreEnds f g xs
is_apart a f g xs some first last is inc = (
  λ l on. fails a g _ _ is (only_so xs inc (some_number _ some) a g (sym last) l on),
  ends xs inc (some_number _ some) a g (sym last) f (sym first),
)
