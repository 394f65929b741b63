-- Prefixes of lists, and properties of each element of a list.
use Rattle.std.proofs.Common.{ℕ, zero, suc, ◌≡◌, ◌<◌, ◌≤◌, List, [], ◌∷◌, ◌++◌, length, get_or, take, drop}
use Rattle.std.proofs.Common.{refl, arith, sym, ◌∙◌, ap, subst, Some, append_assoc}
use Rattle.std.specs.Prelude.{slice_get}
use Rattle.std.specs.List.{AllByRecursion}
use Rattle.std.proofs.lemmas.List.{append-nil, get_or_append_left, get_or_push, length-append, take-append-drop}
use Rattle.std.proofs.lemmas.List.{take-take}
use Rattle.std.proofs.lemmas.Option.{get_or_from_slice_get, slice_get-get_or, slice_get_within}
use Rattle.rly_world.specs.PairPayloads.{IsPrefix}

-- an element of a list is one of each list that it is a prefix of
pub get_in_front : {X : Type 0} (xs rest : List X) {ys : List X} (k : ℕ) (x : X) → ys ≡ xs ++ rest
    → slice_get xs k ≡ Some x → slice_get ys k ≡ Some x
get_in_front {X} xs rest k x is found =
    let below = slice_get_within xs k x found in
    ap (λ (l : List X). slice_get l k) is
    ∙ slice_get-get_or (xs ++ rest) k x (omega (arith, below, length-append xs rest))
    ∙ ap (λ (y : X). Some y) (get_or_append_left xs rest x k below ∙ get_or_from_slice_get xs k x x found)

pub prefix_all : {X : Type 0} (xs : List X) → IsPrefix xs xs
prefix_all xs = ([], sym (append-nil xs))

pub prefix_same : {X : Type 0} (xs ys : List X) → ys ≡ xs → IsPrefix xs ys
prefix_same xs ys same = ([], same ∙ sym (append-nil xs))

pub prefix_again : {X : Type 0} (xs ys zs : List X) → IsPrefix xs ys → IsPrefix ys zs → IsPrefix xs zs
prefix_again {X} xs ys zs first second =
    (first.0 ++ second.0, second.1 ∙ ap (λ (l : List X). l ++ second.0) first.1 ∙ append_assoc xs first.0 second.0)

pub prefix_of_take : {X : Type 0} (n : ℕ) (xs : List X) → IsPrefix (take n xs) xs
prefix_of_take n xs = (drop n xs, sym (take-append-drop n xs))

pub prefix_take : {X : Type 0} (m n : ℕ) (xs : List X) → m ≤ n → IsPrefix (take m xs) (take n xs)
prefix_take {X} m n xs below = (
  drop m (take n xs),
  sym (take-append-drop m (take n xs))
      ∙ ap (λ (l : List X). l ++ drop m (take n xs)) (take-take m n xs below),
)

pub prefix_length : {X : Type 0} (xs ys : List X) → IsPrefix xs ys → length xs ≤ length ys
prefix_length xs ys p = omega (arith, ap length p.1, length-append xs p.0)

-- one more element
goes_on : {X : Type 0} (xs ys rest : List X) (x : X) → ys ≡ xs ++ rest → slice_get ys (length xs) ≡ Some x
    → IsPrefix (xs ++ x ∷ []) ys
goes_on {X} xs ys [] x is found =
    absurd (let below = slice_get_within ys (length xs) x found in omega
    (arith, below, ap length is, length-append xs []))
goes_on {X} xs ys (y ∷ rest) x is found =
    let split : xs ++ y ∷ rest ≡ (xs ++ y ∷ []) ++ rest = sym (append_assoc xs (y ∷ []) rest) in
    let same : y ≡ x =
    sym (ap (λ (l : List X). get_or l (length xs) x) (is ∙ split)
    ∙ get_or_append_left (xs ++ y ∷ []) rest x (length xs) (omega (arith, length-append xs (y ∷ [])))
    ∙ get_or_push xs y x (length xs) refl)
    ∙ get_or_from_slice_get ys (length xs) x x found in
    (rest, is ∙ split ∙ ap (λ (z : X). (xs ++ z ∷ []) ++ rest) same)

pub prefix_more : {X : Type 0} (xs ys : List X) (x : X) → IsPrefix xs ys → slice_get ys (length xs) ≡ Some x
    → IsPrefix (xs ++ x ∷ []) ys
prefix_more xs ys x p found = goes_on xs ys p.0 x p.1 found

-- ---- each element

pub all_append : {X : Type 0} (P : X → Type 0) (xs ys : List X) → AllByRecursion P xs → AllByRecursion P ys
    → AllByRecursion P (xs ++ ys)
all_append P [] ys all more = more
all_append P (x ∷ xs) ys all more = (all.0, all_append P xs ys all.1 more)

pub all_weaker : {X : Type 0} (P Q : X → Type 0) → ((x : X) → P x → Q x) → (xs : List X) → AllByRecursion P xs
    → AllByRecursion Q xs
all_weaker P Q weaker [] all = tt
all_weaker P Q weaker (x ∷ xs) all = (weaker x all.0, all_weaker P Q weaker xs all.1)

all_at : {X : Type 0} (P : X → Type 0) (xs : List X) (k : ℕ) (d : X) → k < length xs → AllByRecursion P xs
    → P (get_or xs k d)
all_at P [] k d below all = absurd (omega arith)
all_at P (x ∷ xs) zero d below all = all.0
all_at P (x ∷ xs) (suc k) d below all = all_at P xs k d (omega arith) all.1

pub all_get : {X : Type 0} (P : X → Type 0) (xs : List X) (k : ℕ) (x : X) → AllByRecursion P xs
    → slice_get xs k ≡ Some x → P x
all_get P xs k x all found =
    subst P (get_or_from_slice_get xs k x x found) (all_at P xs k x (slice_get_within xs k x found) all)
