-- The properties of each token's view after one was changed, or one was added.
use Rattle.std.proofs.Common.{◌≡◌, ◌≢◌, ℕ, zero, suc, List, [], ◌∷◌, ◌++◌, length, set, refl, ap, sym, subst, ⊎_elim, ◌⊎◌, inl, inr, arith}
use mathlib.Core.Option.{some, some-injective, some-ne-none}
use lib.ListN.{get_elem?}

module _ {V : Type 0} where
  -- of each token
  abbrev pub Each : (ℕ → V → Type 0) → List V → Type 0
  Each F views = (pass : ℕ) (v : V) → get_elem? views pass ≡ some v → F pass v

  pub at_set : (l : List V) (i j : ℕ) (a b : V) → get_elem? (set l i a) j ≡ some b → ((j ≡ i) × (a ≡ b)) ⊎ ((j ≢ i) × (get_elem? l j ≡ some b))
  at_set [] i j a b e = absurd (some-ne-none b (sym e))
  at_set (x ∷ xs) zero zero a b e = inl (refl, some-injective a b e)
  at_set (x ∷ xs) zero (suc j) a b e = inr ((λ h. omega arith), e)
  at_set (x ∷ xs) (suc i) zero a b e = inr ((λ h. omega arith), e)
  at_set (x ∷ xs) (suc i) (suc j) a b e = ⊎_elim (λ t. inl (ap suc t.0, t.1)) (λ t. let n = t.0 in inr ((λ h. n (omega arith)), t.1)) (at_set xs i j a b e)

  -- one view was changed
  pub each_set : (F : ℕ → V → Type 0) (views : List V) (pass : ℕ) (w : V) → F pass w
      → ((j : ℕ) (u : V) → j ≢ pass → get_elem? views j ≡ some u → F j u) → Each F (set views pass w)
  each_set F views pass w mine others j u e = ⊎_elim
      (λ (x : (j ≡ pass) × (w ≡ u)). subst (λ (y : ℕ × V). F y.0 y.1) (λ i. (sym x.0 i, x.1 i)) mine)
      (λ (x : (j ≢ pass) × (get_elem? views j ≡ some u)). others j u x.0 x.1) (at_set views pass j w u e)

  at_push : (l : List V) (a b : V) (j : ℕ) → get_elem? (l ++ a ∷ []) j ≡ some b → (get_elem? l j ≡ some b) ⊎ ((j ≡ length l) × (a ≡ b))
  at_push [] a b zero e = inr (refl, some-injective a b e)
  at_push [] a b (suc j) e = absurd (some-ne-none b (sym e))
  at_push (x ∷ xs) a b zero e = inl e
  at_push (x ∷ xs) a b (suc j) e = ⊎_elim (λ h. inl h) (λ (h : (j ≡ length xs) × (a ≡ b)). inr (ap suc h.0, h.1)) (at_push xs a b j e)

  -- one was added
  pub each_push : (F : ℕ → V → Type 0) (views : List V) (w : V) → Each F views → F (length views) w → Each F (views ++ w ∷ [])
  each_push F views w old new j u e = ⊎_elim
      (λ (x : get_elem? views j ≡ some u). old j u x)
      (λ (x : (j ≡ length views) × (w ≡ u)). subst (λ (y : ℕ × V). F y.0 y.1) (λ i. (sym x.0 i, x.1 i)) new) (at_push views w u j e)

  -- there is one token at first
  pub alone : (v u : V) (j : ℕ) → get_elem? (v ∷ []) j ≡ some u → (j ≡ 0) × (v ≡ u)
  alone v u zero e = (refl, some-injective v u e)
  alone v u (suc j) e = absurd (some-ne-none u (sym e))
