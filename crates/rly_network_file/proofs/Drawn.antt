-- One station more in the picture.
use Rattle.std.proofs.Common.{◌≡◌, ◌∙◌, ℕ, ◌+◌, List, arith, [], ◌∷◌, ◌++◌, ap, append_assoc, append-nil, length, sym}
use Rattle.std.proofs.lemmas.List.{length-append}
use Rattle.rly_network_file.specs.Picture.{station_line, station_lines}

one_more_line : (numbers : List ℕ) (names : List (List ℕ)) (number : ℕ) (name : List ℕ) → length names ≡ length numbers
    → station_lines (numbers ++ number ∷ []) (names ++ name ∷ []) ≡ station_lines numbers names ++ station_line number name
one_more_line [] [] number name same = append-nil (station_line number name)
one_more_line [] (m ∷ names) number name same = absurd cc
one_more_line (n ∷ numbers) [] number name same = absurd cc
one_more_line (n ∷ numbers) (m ∷ names) number name same =
    let more = one_more_line numbers names number name (omega (arith, same)) in
    ap (λ l. station_line n m ++ l) more ∙ sym (append_assoc (station_line n m) (station_lines numbers names) (station_line number name))

pub one_more_drawn : (numbers : List ℕ) (number : ℕ) (name before now text : List ℕ)
    → ((names : List (List ℕ)) × (length names ≡ length numbers) × (before ≡ text ++ station_lines numbers names))
    → now ≡ before ++ station_line number name
    → (names : List (List ℕ)) × (length names ≡ length (numbers ++ number ∷ [])) × (now ≡ text ++ station_lines (numbers ++ number ∷ []) names)
one_more_drawn numbers number name before now text drawn more = (
  drawn.0 ++ name ∷ [],
  length-append drawn.0 (name ∷ []) ∙ ap (λ n. n + 1) drawn.1 ∙ sym (length-append numbers (number ∷ [])),
  more ∙ ap (λ l. l ++ station_line number name) drawn.2 ∙ append_assoc text (station_lines numbers drawn.0) (station_line number name)
      ∙ ap (λ l. text ++ l) (sym (one_more_line numbers drawn.0 number name drawn.1)),
)
