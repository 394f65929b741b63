-- The addresses of segments: multiples of their length after the first.
use Rattle.std.proofs.Common.{◌≡◌, ◌∙◌, ℕ, ◌+◌, ◌*◌, ◌-◌, ◌%◌, ◌/◌, ◌≤◌, IsTrue, nat_eq, arith, ap}
use Rattle.std.proofs.Math.Nat.{add-sub_cancel_left, div-add-mod, mul-mod_left, mul_comm}
use Rattle.std.proofs.lemmas.Bool.{eq-eqb, eqb-true}

pub begins_there : (place first n : ℕ) → first ≤ place → IsTrue (nat_eq ((place - first) % n) 0) → (segment : ℕ) × (place ≡ first + segment * n)
begins_there place first n behind even =
    let none : (place - first) % n ≡ 0 = eqb-true _ _ even in
    let whole : n * ((place - first) / n) + (place - first) % n ≡ place - first = div-add-mod (place - first) n in
    let turned : n * ((place - first) / n) ≡ (place - first) / n * n = mul_comm n ((place - first) / n) in
    ((place - first) / n, omega (arith, behind, none, whole, turned))

pub there_begins : (place first n : ℕ) → (segment : ℕ) × (place ≡ first + segment * n) → IsTrue (nat_eq ((place - first) % n) 0)
there_begins place first n found = let segment : ℕ = found.0 in
    eq-eqb _ _ (ap (λ m. (m - first) % n) found.1 ∙ ap (λ m. m % n) (add-sub_cancel_left first (segment * n)) ∙ mul-mod_left segment n)
