-- The integer root of the quotient is the step, and the digits of `step_of` build the same number.
use Rattle.std.proofs.Common.{◌≡◌, ℕ, zero, suc, ◌+◌, ◌*◌, ◌/◌, ◌^◌, ◌<◌, ◌≤◌, Bool, true, false, nat_le, arith, inl, inr}
use Rattle.std.proofs.Math.Nat.{div-mul-le_self, mul-le-mul_right, mul-le-mul_left, mul-le-mul, two-pow-succ, le_antisymm}
use Rattle.std.proofs.lemmas.Nat.{le-div}
use Rattle.std.proofs.lemmas.Bool.{leb-true, leb-false, le-leb, lt-leb, cases_lt, cases_Bool}
use Rattle.rly_law.specs.ControlLaw.{IsStep, greatest_passing, step_of}

-- a greater number has a greater square
square-le : (a b : ℕ) → a ≤ b → a * a ≤ b * b
square-le a b h = mul-le-mul h h

-- if e's square is below that of d + 1, then e is at most d
le_of_square_below_next : (d e : ℕ) → e * e < (d + 1) * (d + 1) → e ≤ d
le_of_square_below_next d e h =
    elim (cases_lt d e) [ inl above ↦ absurd (too_large above) | inr below ↦ below ]
  where
    too_large : d < e → ⊥
    too_large above =
        let next : d + 1 ≤ e = omega arith in
        let larger : (d + 1) * (d + 1) ≤ e * e = square-le (d + 1) e next in
        omega arith

-- the integer root of the quotient is the step
pub IsStep-root : (interval count d : ℕ) → 1 ≤ count → d * d ≤ interval * interval / count →
    interval * interval / count < (d + 1) * (d + 1) → IsStep interval count d
IsStep-root interval count d positive below above = record {
  soon_enough =
      let scaled : d * d * count ≤ interval * interval / count * count = mul-le-mul_right count below in
      let whole : interval * interval / count * count ≤ interval * interval = div-mul-le_self (interval * interval) count in
      omega arith;
  greatest = λ e soon.
      let quotient : e * e ≤ interval * interval / count = le-div (e * e) (interval * interval) count positive soon in
      le_of_square_below_next d e (omega arith);
}

-- the search from a number that passes, with 2 ^ digits above it a number that doesn't, ends at a number that passes
-- and whose successor doesn't
greatest_passing-edge : (passes : ℕ → Bool) (digits found : ℕ) → passes found ≡ true → passes (found + 2 ^ digits) ≡ false →
    (passes (greatest_passing passes digits found) ≡ true) × (passes (greatest_passing passes digits found + 1) ≡ false)
greatest_passing-edge passes zero found here beyond = (here, beyond)
greatest_passing-edge passes (suc digits) found here beyond =
    elim (cases_Bool (passes (found + 2 ^ digits))) [
      | inl set ↦
          rw set
          (greatest_passing-edge passes digits (found + 2 ^ digits) set
          (let double : found + 2 ^ digits + 2 ^ digits ≡ found + 2 ^ suc digits = omega (arith, two-pow-succ digits) in rw double beyond))
      | inr clear ↦ rw clear (greatest_passing-edge passes digits found here clear)
    ]

-- no interval below 2 ^ 32 has a step of 2 ^ 32
too_late : (interval count : ℕ) → interval < 2 ^ 32 → 1 ≤ count → interval * interval < (0 + 2 ^ 32) * (0 + 2 ^ 32) * count
too_late interval count short positive =
    let inner : interval * interval ≤ interval * (2 ^ 32) = mul-le-mul_left interval (omega arith) in
    let counted : 2 ^ 64 * 1 ≤ 2 ^ 64 * count = mul-le-mul_left (2 ^ 64) positive in
    omega arith

-- the number built from the digits is the step
pub IsStep-step_of : (interval count : ℕ) → interval < 2 ^ 32 → 1 ≤ count → IsStep interval count (step_of interval count)
unfolding step_of
IsStep-step_of interval count short positive =
    let passes : ℕ → Bool = λ d. nat_le (d * d * count) (interval * interval) in
    let edge = greatest_passing-edge passes 32 0 (le-leb _ _ (omega arith)) (lt-leb _ _ (too_late interval count short positive)) in
    let d : ℕ = greatest_passing passes 32 0 in
    record {
      soon_enough = leb-true _ _ edge.0;
      greatest = λ e soon. elim (cases_lt d e) [
        | inl above ↦
            (let next : d + 1 ≤ e = omega arith in
            let larger : (d + 1) * (d + 1) * count ≤ e * e * count = mul-le-mul_right count (square-le (d + 1) e next) in
            let late : interval * interval < (d + 1) * (d + 1) * count = leb-false _ _ edge.1 in
            absurd (omega arith))
        | inr below ↦ below
      ];
    }

-- only one number is the greatest
pub IsStep-unique : (interval count d e : ℕ) → IsStep interval count d → IsStep interval count e → d ≡ e
IsStep-unique interval count d e first second =
    le_antisymm (second.greatest d first.soon_enough) (first.greatest e second.soon_enough)

-- the step for more drops is soon enough for fewer
pub step-falls : (interval fewer more d e : ℕ) → fewer ≤ more → IsStep interval fewer d → IsStep interval more e → e ≤ d
step-falls interval fewer more d e less first second =
    let scaled : e * e * fewer ≤ e * e * more = mul-le-mul_left (e * e) less in
    let late : e * e * more ≤ interval * interval = second.soon_enough in
    first.greatest e (omega arith)

-- a step is at most the interval
pub step_of-le : (interval count : ℕ) → interval < 2 ^ 32 → 1 ≤ count → step_of interval count ≤ interval
step_of-le interval count short positive =
    let d : ℕ = step_of interval count in
    let soon : d * d * count ≤ interval * interval = (IsStep-step_of interval count short positive).soon_enough in
    let counted : d * d * 1 ≤ d * d * count = mul-le-mul_left (d * d) positive in
    elim (cases_lt interval d) [
      | inl above ↦
          (let next : interval + 1 ≤ d = omega arith in
          let larger : (interval + 1) * (interval + 1) ≤ d * d = square-le (interval + 1) d next in
          absurd (omega arith))
      | inr below ↦ below
    ]
