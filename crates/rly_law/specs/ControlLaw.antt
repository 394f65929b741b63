-- CoDel's control law (RFC 8289 section 5) over whole numbers.
use Rattle.std.specs.Prelude.{ℕ, zero, suc, ◌+◌, ◌*◌, ◌^◌, ◌≤◌, Bool, nat_le, if◌then◌else◌}

-- d microseconds are at most the RFC's interval / sqrt(count)
abbrev pub IsSoonEnough : ℕ → ℕ → ℕ → Type 0
IsSoonEnough interval count d = d * d * count ≤ interval * interval

-- the control law: d is the greatest whole number that is soon enough
pub record IsStep (interval count d : ℕ) : Type 0 where
  pub soon_enough : IsSoonEnough interval count d
  pub greatest : (e : ℕ) → IsSoonEnough interval count e → e ≤ d

-- the greatest number that passes a test, built from the given number of binary digits, the highest first
abbrev pub greatest_passing : (ℕ → Bool) → ℕ → ℕ → ℕ
greatest_passing passes zero found = found
greatest_passing passes (suc digits) found =
    greatest_passing passes digits (if passes (found + 2 ^ digits) then found + 2 ^ digits else found)

-- the step as a number, for intervals of less than 2 ^ 32
unfoldable pub step_of : ℕ → ℕ → ℕ
step_of interval count = greatest_passing (λ d. nat_le (d * d * count) (interval * interval)) 32 0
