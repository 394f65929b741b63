-- The ends of lines.
use Rattle.std.proofs.Common.{◌≡◌, ℕ, ◌+◌, ◌-◌, ◌≤◌, ◌<◌, List, [], ◌∷◌, ◌++◌, length, take, drop, slice_range, ◌^◌, min, Bool, true, false, ◌||◌, ◌==◌, Option, Some, None, refl, sym, ◌∙◌, arith, add-one, eqb-true, length-append, length-drop, ap, zero, suc}
use Rattle.std.specs.List.{onto_first, position, position_from}
use Rattle.std.proofs.lemmas.Iterator.Adapters.{position_from-zero}
use Rattle.std.proofs.lemmas.List.{take_min, length-take, drop-take, drop-drop}
use Rattle.std.proofs.Math.Seq.{take-append-add}
use Rattle.rly_daemon_lines.specs.Lines.{lines_of}
use Rattle.rly_daemon_lines.specs.HelpersLineReader.{has_newline, line_front, reading_of, TakesPiece}

-- the parts before and after the index of the first newline
abbrev pub BreaksAt : ℕ → List ℕ → Option ℕ → Type 0
BreaksAt k xs None = has_newline xs ≡ false
BreaksAt k xs (Some at) = (i : ℕ) × (at ≡ k + i) × (has_newline (take i xs) ≡ false) × (xs ≡ take i xs ++ 10 ∷ drop (i + 1) xs)

later : (k x : ℕ) (xs : List ℕ) → (x == 10) ≡ false → (o : Option ℕ) → BreaksAt (k + 1) xs o → BreaksAt k (x ∷ xs) o
later k x xs fails None h = rw (fails, h) refl
later k x xs fails (Some at) h =
    let rest : xs ≡ take h.0 xs ++ 10 ∷ drop (h.0 + 1) xs = h.3 in
    (h.0 + 1, omega arith, simp (add-one, fails, h.2), simp add-one (ap (λ ys. x ∷ ys) (rest ∙ simp add-one)))

breaks_at : (k x : ℕ) (xs : List ℕ) (b : Bool) → (x == 10) ≡ b → BreaksAt (k + 1) xs (position_from (λ y. y == 10) (k + 1) xs) → BreaksAt k (x ∷ xs) (position_from (λ y. y == 10) k (x ∷ xs))
breaks_at k x xs true passes h = rw passes (0, omega arith, refl, ap (λ y. y ∷ xs) (eqb-true x 10 passes))
breaks_at k x xs false fails h = rw fails (later k x xs fails _ h)

pub breaks_from : (k : ℕ) (xs : List ℕ) → BreaksAt k xs (position_from (λ y. y == 10) k xs)
breaks_from k [] = refl
breaks_from k (x ∷ xs) = breaks_at k x xs (x == 10) refl (breaks_from (k + 1) xs)

pub break_none : (xs : List ℕ) → position (λ y. y == 10) xs ≡ None → has_newline xs ≡ false
break_none xs e = rw (sym (position_from-zero (λ y. y == 10) xs) ∙ e) at (breaks_from 0 xs)

pub break_some : (xs : List ℕ) (at : ℕ) → position (λ y. y == 10) xs ≡ Some at → (has_newline (take at xs) ≡ false) × (xs ≡ take at xs ++ 10 ∷ drop (at + 1) xs)
break_some xs at e =
    let h = rw (sym (position_from-zero (λ y. y == 10) xs) ∙ e) at (breaks_from 0 xs) in
    let same : h.0 ≡ at = omega arith in
    rw (← same) (h.2, h.3)

or_false : (a b : Bool) → (a || b) ≡ false → (a ≡ false) × (b ≡ false)
or_false true b h = let no : ⊥ = cc in absurd no
or_false false b h = (refl, h)

-- a front without a newline, and then a newline: the first line
pub lines_ended : (piece rest : List ℕ) → has_newline piece ≡ false → lines_of (piece ++ 10 ∷ rest) ≡ piece ∷ lines_of rest
lines_ended [] rest h = refl
lines_ended (x ∷ piece) rest h = let parts = or_false (x == 10) (has_newline piece) h in rw (parts.0, lines_ended piece rest parts.1) refl

-- bytes without a newline: one line, if there are any
pub lines_last : (piece : List ℕ) → has_newline piece ≡ false → 0 < length piece → lines_of piece ≡ piece ∷ []
lines_last [] h some = absurd (omega arith)
lines_last (x ∷ []) h some = let parts = or_false (x == 10) (has_newline []) h in rw parts.0 refl
lines_last (x ∷ y ∷ piece) h some =
    let parts = or_false (x == 10) (has_newline (y ∷ piece)) h in
    let rest : lines_of (y ∷ piece) ≡ (y ∷ piece) ∷ [] = lines_last (y ∷ piece) parts.1 (omega arith) in
    rw (parts.0) (ap (onto_first x) rest)

pub no_newline-append : (a b : List ℕ) → has_newline a ≡ false → has_newline b ≡ false → has_newline (a ++ b) ≡ false
no_newline-append [] b h k = k
no_newline-append (x ∷ a) b h k = let parts = or_false (x == 10) (has_newline a) h in rw (parts.0) (no_newline-append a b parts.1 k)

-- the kept bytes of a line as its pieces are read
pub kept_more : (line piece : List ℕ) (room : ℕ) → length line + room ≡ 20481 → line ++ take (min room (length piece)) piece ≡ line_front (line ++ piece)
kept_more line piece room whole =
    let front : take (length line + room) (line ++ piece) ≡ line ++ take room piece = take-append-add line piece room in
    rw (take_min room piece) (sym (rw whole at front))

pub kept_again : (n : ℕ) (a b : List ℕ) → take n (take n a ++ b) ≡ take n (a ++ b)
kept_again zero a b = refl
kept_again (suc n) [] b = refl
kept_again (suc n) (x ∷ a) b = ap (λ xs. x ∷ xs) (kept_again n a b)

-- the rest of a part of a list
pub rest_of_range : (chunk : List ℕ) (at end n : ℕ) → at + n ≤ end → drop n (slice_range chunk at end) ≡ slice_range chunk (at + n) end
rest_of_range chunk at end n within =
    let whole : n + (end - (at + n)) ≡ end - at = omega arith in
    let cut : drop n (take (n + (end - (at + n))) (drop at chunk)) ≡ take (end - (at + n)) (drop n (drop at chunk)) = drop-take n (end - (at + n)) (drop at chunk) in
    let moved : drop n (drop at chunk) ≡ drop (at + n) chunk = drop-drop n at chunk in
    rw (whole, moved) at cut

length_of_range : (chunk : List ℕ) (at end : ℕ) → end ≤ length chunk → length (slice_range chunk at end) ≡ end - at
length_of_range chunk at end within = omega (arith, length-take (end - at) (drop at chunk), length-drop at chunk)

-- a newline was found in the bytes read ahead
pub piece_ended : (chunk line kept : List ℕ) (at end total count : ℕ) → at ≤ end → end ≤ length chunk → end - at ≤ total → total < 2 ^ 64 - 1
    → position (λ y. y == 10) (slice_range chunk at end) ≡ Some count → kept ≡ line_front (line ++ take count (slice_range chunk at end))
    → TakesPiece true (reading_of chunk at end line total) (reading_of chunk (at + (count + 1)) end kept total)
piece_ended chunk line kept at end total count front within counted bounded place held =
    let parts = break_some (slice_range chunk at end) count place in
    let size : length (slice_range chunk at end) ≡ end - at = length_of_range chunk at end within in
    let sizes : length (slice_range chunk at end) ≡ length (take count (slice_range chunk at end)) + (length (drop (count + 1) (slice_range chunk at end)) + 1) =
    ap length parts.1 ∙ simp (length-append, add-one) in
    let inside : at + (count + 1) ≤ end = omega (arith, length-take count (slice_range chunk at end), size, sizes) in
    let rest : drop (count + 1) (slice_range chunk at end) ≡ slice_range chunk (at + (count + 1)) end = rest_of_range chunk at end (count + 1) inside in
    let split : slice_range chunk at end ≡ take count (slice_range chunk at end) ++ 10 ∷ slice_range chunk (at + (count + 1)) end =
    parts.1 ∙ ap (λ zs. take count (slice_range chunk at end) ++ 10 ∷ zs) rest in
    (take count (slice_range chunk at end), parts.0, split, held, omega arith, omega arith)

-- no newline was found in the bytes read ahead
pub piece_open : (chunk line kept : List ℕ) (at end total : ℕ) → at ≤ end → end ≤ length chunk → end - at ≤ total → total < 2 ^ 64 - 1
    → position (λ y. y == 10) (slice_range chunk at end) ≡ None → kept ≡ line_front (line ++ slice_range chunk at end)
    → TakesPiece false (reading_of chunk at end line total) (reading_of chunk end end kept total)
piece_open chunk line kept at end total front within counted bounded place held =
    let none : end - end ≡ 0 = omega arith in
    let empty : slice_range chunk end end ≡ [] = rw none refl in
    let taken : total - (end - end) ≡ (total - (end - at)) + length (slice_range chunk at end) = omega (arith, length_of_range chunk at end within) in
    (break_none (slice_range chunk at end) place, empty, held, taken, omega arith)
