-- Writing values in order.
use Rattle.std.proofs.Common.{◌≡◌, ℕ, suc, ◌+◌, ◌<◌, ◌≤◌, List, [], ◌∷◌, ◌++◌, length, get_or, take, drop, sym, ap, ◌∙◌, append_assoc, length-append, arith}
use Rattle.std.specs.List.{flat_map}
use Rattle.std.proofs.lemmas.Grind.{flat_map-append}
use Rattle.std.proofs.lemmas.List.{append-nil, drop_more, take_all}
use Rattle.std.proofs.lemmas.List.Concat.{flat_map-cons}
use Rattle.std.proofs.Math.Seq.{take-suc}

-- one more value after those that were written
pub written_next : {A : Type 0} (spell : A → List ℕ) (xs : List A) (i : ℕ) (x d : A) (old items more : List ℕ) → i < length xs → x ≡ get_or xs i d
    → items ≡ old ++ flat_map spell (take i xs) → more ≡ items ++ spell x → more ≡ old ++ flat_map spell (take (i + 1) xs)
written_next {A} spell xs i x d old items more lt is so_far written =
    let index : i + 1 ≡ suc i = omega arith in
    let step : take (i + 1) xs ≡ take i xs ++ (x ∷ []) = ap (λ (n : ℕ). take n xs) index ∙ take-suc xs i d lt ∙ ap (λ (y : A). take i xs ++ (y ∷ [])) (sym is) in
    let next : flat_map spell (take (i + 1) xs) ≡ flat_map spell (take i xs) ++ spell x =
    ap (flat_map spell) step ∙ flat_map-append spell (take i xs) (x ∷ []) ∙ ap (λ (t : List ℕ). flat_map spell (take i xs) ++ t) (append-nil (spell x)) in
    written ∙ ap (λ (t : List ℕ). t ++ spell x) so_far ∙ append_assoc old (flat_map spell (take i xs)) (spell x) ∙ ap (λ (t : List ℕ). old ++ t) (sym next)

-- the length of the values still to be written
pub length_next : {A : Type 0} (spell : A → List ℕ) (xs : List A) (i : ℕ) (x d : A) → i < length xs → x ≡ get_or xs i d
    → length (flat_map spell (drop i xs)) ≡ length (spell x) + length (flat_map spell (drop (i + 1) xs))
length_next {A} spell xs i x d lt is =
    let cut : drop i xs ≡ x ∷ drop (i + 1) xs = drop_more xs i d lt ∙ ap (λ (y : A). y ∷ drop (i + 1) xs) (sym is) in
    ap (λ (l : List A). length (flat_map spell l)) cut ∙ ap (λ (t : List ℕ). length t) (flat_map-cons spell x (drop (i + 1) xs)) ∙ length-append (spell x) (flat_map spell (drop (i + 1) xs))

-- all were written
pub written_all : {A : Type 0} (spell : A → List ℕ) (xs : List A) (i : ℕ) (old items : List ℕ) → length xs ≤ i → items ≡ old ++ flat_map spell (take i xs) → items ≡ old ++ flat_map spell xs
written_all {A} spell xs i old items all so_far = so_far ∙ ap (λ (l : List A). old ++ flat_map spell l) (take_all i xs all)
