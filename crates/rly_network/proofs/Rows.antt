-- The disagreements of one row more.
use Rattle.std.proofs.Common.{◌≡◌, ℕ, ◌+◌, ◌<◌, List, [], ◌∷◌, ◌++◌, length, get_or, take, refl, sym, ◌∙◌, ap, arith}
use Rattle.std.specs.List.{enumerate_from, flat_map}
use Rattle.std.proofs.lemmas.List.{flat_map_more, length-take, take_more}

-- the last of a numbered list
pub enumerate_push : {X : Type 0} (n : ℕ) (xs : List X) (x : X) → enumerate_from n (xs ++ x ∷ []) ≡ enumerate_from n xs ++ (n + length xs, x) ∷ []
enumerate_push n [] x = ap (λ k. (k, x) ∷ []) (omega arith)
enumerate_push n (y ∷ ys) x =
    let same : n + 1 + length ys ≡ n + length (y ∷ ys) = omega arith in
    ap (λ es. (n, y) ∷ es) (enumerate_push (n + 1) ys x ∙ ap (λ k. enumerate_from (n + 1) ys ++ (k, x) ∷ []) same)

-- what is found in one row more, after what was found before
pub row_more : {X Y : Type 0} (f : X → List Y) (old : List Y) (xs : List X) (i : ℕ) (d : X) → i < length xs
    → (old ++ flat_map f (take i xs)) ++ f (get_or xs i d) ≡ old ++ flat_map f (take (i + 1) xs)
row_more f old xs i d within =
    flat_map_more f old (take i xs) (get_or xs i d) ∙ ap (λ es. old ++ flat_map f es) (sym (take_more xs i d within))

-- the same, if it was appended to that so far, for the row that was found there
pub row_found : {X Y : Type 0} (f : X → List Y) (old mid new : List Y) (xs : List X) (i : ℕ) (x : X) → i < length xs → x ≡ get_or xs i x
    → mid ≡ old ++ flat_map f (take i xs) → new ≡ mid ++ f x → new ≡ old ++ flat_map f (take (i + 1) xs)
row_found f old mid new xs i x within found before line =
    line ∙ ap (λ ms. ms ++ f x) before ∙ ap (λ y. (old ++ flat_map f (take i xs)) ++ f y) found ∙ row_more f old xs i x within

-- the same of numbered rows
pub numbered_more : {X Y : Type 0} (f : ℕ × X → List Y) (old : List Y) (xs : List X) (i : ℕ) (d : X) → i < length xs
    → (old ++ flat_map f (enumerate_from 1 (take i xs))) ++ f (i + 1, get_or xs i d) ≡ old ++ flat_map f (enumerate_from 1 (take (i + 1) xs))
numbered_more f old xs i d within =
    let number : 1 + length (take i xs) ≡ i + 1 = omega (arith, length-take i xs) in
    let last : enumerate_from 1 (take (i + 1) xs) ≡ enumerate_from 1 (take i xs) ++ (i + 1, get_or xs i d) ∷ [] =
    ap (enumerate_from 1) (take_more xs i d within) ∙ enumerate_push 1 (take i xs) (get_or xs i d)
    ∙ ap (λ k. enumerate_from 1 (take i xs) ++ (k, get_or xs i d) ∷ []) number in
    flat_map_more f old (enumerate_from 1 (take i xs)) (i + 1, get_or xs i d) ∙ ap (λ es. old ++ flat_map f es) (sym last)

pub numbered_found : {X Y : Type 0} (f : ℕ × X → List Y) (old mid new : List Y) (xs : List X) (i number : ℕ) (x : X) → i < length xs → x ≡ get_or xs i x → number ≡ i
    → mid ≡ old ++ flat_map f (enumerate_from 1 (take i xs)) → new ≡ mid ++ f (number + 1, x)
    → new ≡ old ++ flat_map f (enumerate_from 1 (take (i + 1) xs))
numbered_found f old mid new xs i number x within found same before line =
    let here : mid ++ f (number + 1, x) ≡ (old ++ flat_map f (enumerate_from 1 (take i xs))) ++ f (i + 1, get_or xs i x) =
    rw (before, same, ← found) refl in
    line ∙ here ∙ numbered_more f old xs i x within

pub numbered_at : {X Y : Type 0} (f : ℕ × X → List Y) (old mid new : List Y) (xs : List X) (i number : ℕ) (d : X) → i < length xs → number ≡ i
    → mid ≡ old ++ flat_map f (enumerate_from 1 (take i xs)) → new ≡ mid ++ f (number + 1, get_or xs i d)
    → new ≡ old ++ flat_map f (enumerate_from 1 (take (i + 1) xs))
numbered_at f old mid new xs i number d within same before line =
    let here : mid ++ f (number + 1, get_or xs i d) ≡ (old ++ flat_map f (enumerate_from 1 (take i xs))) ++ f (i + 1, get_or xs i d) =
    rw (before, same) refl in
    line ∙ here ∙ numbered_more f old xs i d within
