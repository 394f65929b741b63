-- A row more.
use Rattle.std.proofs.Common.{◌≡◌, ℕ, zero, suc, ◌+◌, ◌<◌, List, [], ◌∷◌, ◌++◌, length, get_or, take, append_assoc, refl, sym, ◌∙◌, ap, arith}
use Rattle.std.specs.List.{enumerate_from, flat_map, range_with_len}
use Rattle.std.proofs.lemmas.List.{flat_map_more, length-take, take_more}

-- the last of a numbered list
pub enumerate_push : {X : Type 0} (n : ℕ) (xs : List X) (x : X) → enumerate_from n (xs ++ x ∷ []) ≡ enumerate_from n xs ++ (n + length xs, x) ∷ []
enumerate_push n [] x = ap (λ k. (k, x) ∷ []) (omega arith)
enumerate_push n (y ∷ ys) x =
    let same : n + 1 + length ys ≡ n + length (y ∷ ys) = omega arith in
    ap (λ es. (n, y) ∷ es) (enumerate_push (n + 1) ys x ∙ ap (λ k. enumerate_from (n + 1) ys ++ (k, x) ∷ []) same)

-- the lines of one row more, after those of the rows before it
pub numbered_more : {X Y : Type 0} (f : ℕ × X → List Y) (old : List Y) (xs : List X) (i : ℕ) (d : X) → i < length xs
    → (old ++ flat_map f (enumerate_from 1 (take i xs))) ++ f (i + 1, get_or xs i d) ≡ old ++ flat_map f (enumerate_from 1 (take (i + 1) xs))
numbered_more f old xs i d within =
    let number : 1 + length (take i xs) ≡ i + 1 = omega (arith, length-take i xs) in
    let last : enumerate_from 1 (take (i + 1) xs) ≡ enumerate_from 1 (take i xs) ++ (i + 1, get_or xs i d) ∷ [] =
    ap (enumerate_from 1) (take_more xs i d within) ∙ enumerate_push 1 (take i xs) (get_or xs i d)
    ∙ ap (λ k. enumerate_from 1 (take i xs) ++ (k, get_or xs i d) ∷ []) number in
    flat_map_more f old (enumerate_from 1 (take i xs)) (i + 1, get_or xs i d) ∙ ap (λ es. old ++ flat_map f es) (sym last)

-- the same, if they were appended to those so far, for the row that was found there
pub numbered_found : {X Y : Type 0} (f : ℕ × X → List Y) (old mid new : List Y) (xs : List X) (i number : ℕ) (x : X) → i < length xs → x ≡ get_or xs i x → number ≡ i
    → mid ≡ old ++ flat_map f (enumerate_from 1 (take i xs)) → new ≡ mid ++ f (number + 1, x)
    → new ≡ old ++ flat_map f (enumerate_from 1 (take (i + 1) xs))
numbered_found f old mid new xs i number x within found same before line =
    let here : mid ++ f (number + 1, x) ≡ (old ++ flat_map f (enumerate_from 1 (take i xs))) ++ f (i + 1, get_or xs i x) =
    rw (before, same, ← found) refl in
    line ∙ here ∙ numbered_more f old xs i x within

pub numbered_at : {X Y : Type 0} (f : ℕ × X → List Y) (old mid new : List Y) (xs : List X) (i number : ℕ) (d : X) → i < length xs → number ≡ i
    → mid ≡ old ++ flat_map f (enumerate_from 1 (take i xs)) → new ≡ mid ++ f (number + 1, get_or xs i d)
    → new ≡ old ++ flat_map f (enumerate_from 1 (take (i + 1) xs))
numbered_at f old mid new xs i number d within same before line =
    let here : mid ++ f (number + 1, get_or xs i d) ≡ (old ++ flat_map f (enumerate_from 1 (take i xs))) ++ f (i + 1, get_or xs i d) =
    rw (before, same) refl in
    line ∙ here ∙ numbered_more f old xs i d within

-- three texts, one after the other, and four
pub three_written : (old a b d first second third : List ℕ) → first ≡ old ++ a → second ≡ first ++ b → third ≡ second ++ d → third ≡ old ++ (a ++ b ++ d)
three_written old a b d first second third one two three =
    three ∙ ap (λ t. t ++ d) (two ∙ ap (λ t. t ++ b) one) ∙ ap (λ t. t ++ d) (append_assoc old a b) ∙ append_assoc old (a ++ b) d

pub four_written : (old a b d e first second third fourth : List ℕ) → first ≡ old ++ a → second ≡ first ++ b → third ≡ second ++ d → fourth ≡ third ++ e
    → fourth ≡ old ++ (a ++ b ++ d ++ e)
four_written old a b d e first second third fourth one two three four =
    four ∙ ap (λ t. t ++ e) (three_written old a b d first second third one two three) ∙ append_assoc old (a ++ b ++ d) e

range_more : (a n : ℕ) → range_with_len a (n + 1) ≡ range_with_len a n ++ (a + n) ∷ []
range_more a zero = ap (λ k. k ∷ []) (omega arith)
range_more a (suc n) =
    let same : a + 1 + n ≡ a + suc n = omega arith in
    let next : suc n + 1 ≡ suc (n + 1) = omega arith in
    ap (range_with_len a) next ∙
    ap (λ ks. a ∷ ks) (range_more (a + 1) n ∙ ap (λ k. range_with_len (a + 1) n ++ k ∷ []) same)

-- the lines of a number more
pub number_more : {X : Type 0} (f : ℕ → List X) (old : List X) (n : ℕ) → (old ++ flat_map f (range_with_len 1 n)) ++ f (n + 1) ≡ old ++ flat_map f (range_with_len 1 (n + 1))
number_more f old n =
    let same : 1 + n ≡ n + 1 = omega arith in
    flat_map_more f old (range_with_len 1 n) (n + 1) ∙ ap (λ ns. old ++ flat_map f ns) (sym (range_more 1 n ∙ ap (λ k. range_with_len 1 n ++ k ∷ []) same))
