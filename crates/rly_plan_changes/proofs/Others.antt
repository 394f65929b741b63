-- No id that names another station is left.
use Rattle.std.proofs.Common.{◌≡◌, ℕ, ◌≤◌, List, [], ◌∷◌, length, drop, None, arith, inl, inr, refl}
use Rattle.std.specs.Prelude.{min}
use Rattle.std.proofs.lemmas.Bool.{cases_lt}
use Rattle.std.proofs.lemmas.List.{drop_all}
use Rattle.rly_plan_syntax.specs.declared.key_path.Row.{Row}
use Rattle.rly_plan_changes.specs.PlanIds.{first_other}

none_beside : (row : Row) (n : ℕ) (old : List ℕ) → first_other row n old [] ≡ None
none_beside row n [] = refl
none_beside row n (was ∷ old) = refl

pub none_left : (row : Row) (n i : ℕ) (old new : List ℕ) → min (length old) (length new) ≤ i → None ≡ first_other row n (drop i old) (drop i new)
none_left row n i old new past =
    elim (cases_lt i (length old)) [
      | inl within ↦
          let gone : drop i new ≡ [] = drop_all i new (omega (arith, past, within)) in
          rw gone (rw (none_beside row n (drop i old)) refl)
      | inr beyond ↦ rw (drop_all i old beyond) refl
    ]
