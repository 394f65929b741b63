-- Hexadecimal digits, two for each byte.
use Rattle.std.proofs.Common.{◌≡◌, ℕ, ◌/◌, ◌%◌, ◌<◌, List, [], ◌∷◌, ◌++◌, slice_index, nat_lt, All, IsOk, MatchResult, Result, Ok, Err, refl, ap, rules}
use Rattle.std.specs.List.{AllPass}
use Rattle.std.specs.Str.{IsUtf8}
use Rattle.std.proofs.lemmas.Bool.{ltb-true}
use Rattle.std.proofs.lemmas.List.Sums.{AllPass-from_list_all}
use Rattle.std.proofs.lemmas.Str.{IsUtf8-from_ascii}
use Rattle.std.proofs.lemmas.Str.Ascii.{IsAscii-from_all}
use Rattle.hex.proofs.HexLemmas.{IsAscii-encode_with}
use Rattle.hex.specs.Hex.{encode_with, encode_lower, lower_digits}

pub encode_nil : encode_lower [] ≡ []
unfolding encode_with
encode_nil = refl

pub encode_both : (t a b : List ℕ) → encode_with t (a ++ b) ≡ encode_with t a ++ encode_with t b
unfolding encode_with
encode_both t [] b = refl
encode_both t (x ∷ a) b = ap (λ ds. slice_index t (x / 16) ∷ slice_index t (x % 16) ∷ ds) (encode_both t a b)

-- digits are a text
pub digits_text : (bytes : List ℕ) → IsUtf8 (encode_lower bytes)
digits_text bytes =
    let table : AllPass (λ b. nat_lt b 128) lower_digits = AllPass-from_list_all (λ b. nat_lt b 128) lower_digits refl in
    let small : All (λ b. b < 128) lower_digits = λ k d within. ltb-true _ _ (table k d within) in
    IsUtf8-from_ascii (encode_lower bytes) (IsAscii-encode_with lower_digits bytes (IsAscii-from_all lower_digits small))

-- an impossible error doesn't occur
pub never_error : {A E : Type 0} (r : Result A E) (P : A → Type 0) (Q : Type 0) (R : E → Type 0) → MatchResult r P (λ e. (Q → ⊥) × R e) → Q → IsOk r
never_error (Ok text) P Q R h q = search rules
never_error (Err e) P Q R h q = absurd (h.0 q)
