-- The least wait of the hops so far.
use Rattle.std.proofs.Common.{◌≡◌, ℕ, ◌+◌, ◌<◌, ◌≤◌, List, length, get_or, Option, Some, None, ◌∙◌, ap, arith, below_more}
use Rattle.std.proofs.lemmas.List.{get_or_default}
use Rattle.std.specs.Prelude.{IfSome, min, unwrap_or}

no_longer : (a b : ℕ) (o : Option ℕ) → a ≤ b → IfSome o (λ w. b ≤ w) → IfSome o (λ w. a ≤ w)
no_longer a b None less each = tt
no_longer a b (Some w) less each = omega (arith, less, each)

found : (wait most result : ℕ) (o : Option ℕ) → result ≡ min wait (unwrap_or o most) → IfSome o (λ w. result ≤ w)
found wait most result None is = tt
found wait most result (Some w) is = omega (arith, is)

pub one_less : (f : ℕ → Option ℕ) (n wait result : ℕ) → (wait ≤ 1000000) × ((p : ℕ) → p < n → IfSome (f p) (λ w. wait ≤ w))
    → result ≡ min wait (unwrap_or (f n) 1000000) → (result ≤ 1000000) × ((p : ℕ) → p < n + 1 → IfSome (f p) (λ w. result ≤ w))
one_less f n wait result before is =
    let less : result ≤ wait = omega (arith, is) in (
      omega (arith, less, before.0),
      below_more (λ p. IfSome (f p) (λ w. result ≤ w)) n (λ p below. no_longer result wait (f p) less (before.1 p below)) (found wait 1000000 result (f n) is),
    )

-- an element of a list, whatever stands for one that is missing
pub found_there : {A : Type 0} (xs ys : List A) (i : ℕ) (x d : A) → xs ≡ ys → i < length xs → x ≡ get_or xs i x → x ≡ get_or ys i d
found_there xs ys i x d same within is = is ∙ get_or_default xs i x d within ∙ ap (λ zs. get_or zs i d) same
