-- When drops are due in a dropping phase (RFC 8289 section 5, dequeue).
use Rattle.std.specs.Prelude.{ℕ, zero, suc, ◌+◌, Bool, nat_lt, if◌then◌else◌}

-- drop time j: drop_next plus the steps of the next j counts
abbrev pub drop_time : (ℕ → ℕ) → ℕ → ℕ → ℕ → ℕ
drop_time step drop_next count zero = drop_next
drop_time step drop_next count (suc j) = drop_time step drop_next count j + step (count + suc j)

-- the least number below a bound that passes a test, or else the bound
abbrev pub least_below : (ℕ → Bool) → ℕ → ℕ
least_below passes zero = 0
least_below passes (suc bound) = if passes 0 then 0 else suc (least_below (λ j. passes (suc j)) bound)

-- the number of items of a front of m that are dropped at now: the least j whose drop time is in the future, or m
abbrev pub drops_due : (ℕ → ℕ) → ℕ → ℕ → ℕ → ℕ → ℕ
drops_due step now drop_next count m = least_below (λ j. nat_lt now (drop_time step drop_next count j)) m
