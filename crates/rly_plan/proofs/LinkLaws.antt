-- How a count below a number grows with the number.
use Rattle.std.proofs.Common.{◌≡◌, ℕ, zero, suc, ◌+◌, ◌-◌, ◌<◌, ◌≤◌, Bool, true, false, cond, arith, inl, inr}
use Rattle.std.proofs.lemmas.Bool.{cases_lt}
use Rattle.rly_plan.specs.LinkClock.{count_below}

one_at_most : (b : Bool) → cond b 1 0 ≤ 1
one_at_most true = omega arith
one_at_most false = omega arith

pub count_never_falls : (test : ℕ → Bool) (a b : ℕ) → a ≤ b → count_below test a ≤ count_below test b
unfolding count_below
count_never_falls test a zero order = let same : a ≡ 0 = omega arith in rw same (omega arith)
count_never_falls test a (suc n) order =
    elim (cases_lt n a) [
      | inl above ↦ let same : a ≡ suc n = omega arith in rw same (omega arith)
      | inr within ↦ omega (arith, count_never_falls test a n within)
    ]

pub count_grows : (test : ℕ → Bool) (a b : ℕ) → a ≤ b → count_below test b ≤ count_below test a + (b - a)
unfolding count_below
count_grows test a zero order = let same : a ≡ 0 = omega arith in rw same (omega arith)
count_grows test a (suc n) order =
    elim (cases_lt n a) [
      | inl above ↦ let same : a ≡ suc n = omega arith in rw same (omega arith)
      | inr within ↦ omega (arith, one_at_most (test n), count_grows test a n within)
    ]

pub count_stands : (test : ℕ → Bool) (a b : ℕ) → a ≤ b → ((u : ℕ) → a ≤ u → u < b → test u ≡ false) → count_below test b ≡ count_below test a
unfolding count_below
count_stands test a zero order fails = let same : a ≡ 0 = omega arith in rw same
count_stands test a (suc n) order fails =
    elim (cases_lt n a) [
      | inl above ↦ let same : a ≡ suc n = omega arith in rw same
      | inr within ↦ rw (fails n within (omega arith)) (omega (arith, count_stands test a n within (λ u from below. fails u from (omega arith))))
    ]

pub count_runs : (test : ℕ → Bool) (a b : ℕ) → a ≤ b → ((u : ℕ) → a ≤ u → u < b → test u ≡ true) → count_below test b ≡ count_below test a + (b - a)
unfolding count_below
count_runs test a zero order passes = let same : a ≡ 0 = omega arith in rw same (omega arith)
count_runs test a (suc n) order passes =
    elim (cases_lt n a) [
      | inl above ↦ let same : a ≡ suc n = omega arith in rw same (omega arith)
      | inr within ↦ rw (passes n within (omega arith)) (omega (arith, within, count_runs test a n within (λ u from below. passes u from (omega arith))))
    ]
