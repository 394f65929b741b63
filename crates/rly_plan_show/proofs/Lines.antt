-- One line more.
use Rattle.std.proofs.Common.{◌≡◌, ℕ, ◌+◌, ◌<◌, List, [], ◌∷◌, ◌++◌, length, get_or, take, append_assoc, refl, sym, ◌∙◌, ap, arith}
use Rattle.std.specs.List.{enumerate_from, flat_map}
use Rattle.std.proofs.lemmas.List.{flat_map_more, length-take, take_more}

-- the last of a numbered list
pub enumerate_push : {X : Type 0} (n : ℕ) (xs : List X) (x : X) → enumerate_from n (xs ++ x ∷ []) ≡ enumerate_from n xs ++ (n + length xs, x) ∷ []
enumerate_push n [] x = ap (λ k. (k, x) ∷ []) (omega arith)
enumerate_push n (y ∷ ys) x =
    let same : n + 1 + length ys ≡ n + length (y ∷ ys) = omega arith in
    ap (λ es. (n, y) ∷ es) (enumerate_push (n + 1) ys x ∙ ap (λ k. enumerate_from (n + 1) ys ++ (k, x) ∷ []) same)

-- the lines of one element more, after a text
pub lines_more : {X Y : Type 0} (f : ℕ × X → List Y) (text : List Y) (xs : List X) (i : ℕ) (d : X) → i < length xs
    → (text ++ flat_map f (enumerate_from 1 (take i xs))) ++ f (i + 1, get_or xs i d) ≡ text ++ flat_map f (enumerate_from 1 (take (i + 1) xs))
lines_more f text xs i d within =
    let number : 1 + length (take i xs) ≡ i + 1 = omega (arith, length-take i xs) in
    let last : enumerate_from 1 (take (i + 1) xs) ≡ enumerate_from 1 (take i xs) ++ (i + 1, get_or xs i d) ∷ [] =
    ap (enumerate_from 1) (take_more xs i d within) ∙ enumerate_push 1 (take i xs) (get_or xs i d)
    ∙ ap (λ k. enumerate_from 1 (take i xs) ++ (k, get_or xs i d) ∷ []) number in
    flat_map_more f text (enumerate_from 1 (take i xs)) (i + 1, get_or xs i d) ∙ ap (λ es. text ++ flat_map f es) (sym last)

-- the same, if the line was appended to those so far, for the element that was found there
pub lines_written : {X Y : Type 0} (f : ℕ × X → List Y) (old mid new : List Y) (xs : List X) (i number : ℕ) (x : X) → i < length xs → x ≡ get_or xs i x → number ≡ i
    → mid ≡ old ++ flat_map f (enumerate_from 1 (take i xs)) → new ≡ mid ++ f (number + 1, x)
    → new ≡ old ++ flat_map f (enumerate_from 1 (take (i + 1) xs))
lines_written f old mid new xs i number x within found same before line =
    let here : mid ++ f (number + 1, x) ≡ (old ++ flat_map f (enumerate_from 1 (take i xs))) ++ f (i + 1, get_or xs i x) =
    rw (before, same, ← found) refl in
    line ∙ here ∙ lines_more f old xs i x within

-- three texts, one after the other
pub three_written : (old a b d first second third : List ℕ) → first ≡ old ++ a → second ≡ first ++ b → third ≡ second ++ d → third ≡ old ++ (a ++ b ++ d)
three_written old a b d first second third one two three =
    three ∙ ap (λ t. t ++ d) (two ∙ ap (λ t. t ++ b) one) ∙ ap (λ t. t ++ d) (append_assoc old a b) ∙ append_assoc old (a ++ b) d
