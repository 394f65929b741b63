-- The earliest of the moments of several numbers, one number after the other.
use Rattle.std.proofs.Common.{◌≡◌, ◌∙◌, ℕ, suc, ◌+◌, List, [], ◌∷◌, ◌++◌, ap, arith, map, min, refl, sym}
use Rattle.std.specs.Prelude.{Option, Some, None}
use Rattle.std.specs.List.{range_with_len}
use Rattle.rly_hop_pacing.specs.Moments.{sooner, soonest}
use Rattle.rly_hop_pacing.proofs.Numbers.{range-more}

sooner-none : (moment : Option ℕ) → sooner moment None ≡ moment
sooner-none None = refl
sooner-none (Some x) = refl

sooner-assoc : (a b c : Option ℕ) → sooner a (sooner b c) ≡ sooner (sooner a b) c
sooner-assoc None b c = refl
sooner-assoc (Some x) None c = refl
sooner-assoc (Some x) (Some y) None = refl
sooner-assoc (Some x) (Some y) (Some z) =
    let same : min x (min y z) ≡ min (min x y) z = omega arith in
    ap (λ (m : ℕ). Some m) same

soonest-last : (f : ℕ → Option ℕ) (l : List ℕ) (x : ℕ) → soonest (map f (l ++ x ∷ [])) ≡ sooner (soonest (map f l)) (f x)
soonest-last f [] x = sooner-none (f x)
soonest-last f (y ∷ l) x =
    ap (sooner (f y)) (soonest-last f l x) ∙ sooner-assoc (f y) (soonest (map f l)) (f x)

pub soonest-more : (f : ℕ → Option ℕ) (a n : ℕ) (first more : Option ℕ) → first ≡ soonest (map f (range_with_len a n))
    → more ≡ sooner first (f (a + n)) → more ≡ soonest (map f (range_with_len a (n + 1)))
soonest-more f a n first more so_far is =
    let next : suc n ≡ n + 1 = omega arith in
    is ∙ ap (λ m. sooner m (f (a + n))) so_far
    ∙ sym (soonest-last f (range_with_len a n) (a + n))
    ∙ ap (λ l. soonest (map f l)) (sym (range-more a n))
    ∙ ap (λ m. soonest (map f (range_with_len a m))) next
