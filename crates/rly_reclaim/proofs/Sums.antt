-- Lower bounds of the sum of a list of numbers.
use Rattle.std.proofs.Common.{◌≡◌, ◌≢◌, ℕ, zero, suc, ◌+◌, ◌*◌, ◌/◌, ◌-◌, ◌<◌, ◌≤◌, List, [], ◌∷◌, length, sum, arith, rules, slice_index, subst}
use Rattle.std.proofs.Math.Nat.{mul_comm}
use Rattle.std.proofs.lemmas.Nat.{le-div}
use Rattle.std.proofs.lemmas.List.Sums.{sum_by-cons}

sum_more : (x : ℕ) (xs : List ℕ) → sum (x ∷ xs) ≡ x + sum xs
sum_more x xs = sum_by-cons (λ n. n) x xs

suc_times : (n m : ℕ) → suc n * m ≡ m + n * m
suc_times n m = search rules

-- if none is less than m
pub sum_of_all : (xs : List ℕ) (m : ℕ) → ((i : ℕ) → i < length xs → m ≤ slice_index xs i) → length xs * m ≤ sum xs
sum_of_all [] m least = search rules
sum_of_all (x ∷ xs) m least =
    omega (arith, suc_times (length xs) m, sum_more x xs, least 0 (omega arith), sum_of_all xs m (λ i there. least (suc i) (omega (arith, there))))

-- if none except one is less than m
pub sum_of_others : (xs : List ℕ) (at m : ℕ) → ((i : ℕ) → i < length xs → i ≢ at → m ≤ slice_index xs i)
    → length xs * m ≤ sum xs + m
sum_of_others [] at m least = search rules
sum_of_others (x ∷ xs) zero m least =
    omega (
      arith,
      suc_times (length xs) m,
      sum_more x xs,
      sum_of_all xs m (λ i within. least (suc i) (omega (arith, within)) (λ same. omega (arith, same))),
    )
sum_of_others (x ∷ xs) (suc at) m least =
    omega (
      arith,
      suc_times (length xs) m,
      sum_more x xs,
      least 0 (omega arith) (λ same. omega (arith, same)),
      sum_of_others xs at m (λ i within not. least (suc i) (omega (arith, within)) (λ same. not (omega (arith, same)))),
    )

-- if n - 1 numbers of at least m add up to at most b, then m is at most b / (n - 1)
pub share_of_others : (n m b : ℕ) → 2 ≤ n → n * m ≤ b + m → m ≤ b / (n - 1)
share_of_others zero m b many most = absurd (omega (arith, many))
share_of_others (suc n) m b many most = subst (λ others. m ≤ b / others) (omega arith)
    (le-div m b n (omega (arith, many)) (omega (arith, suc_times n m, most, mul_comm m n)))
