-- The effect of a reader of lines on the remaining bytes, piece by piece.
use Rattle.std.proofs.Common.{◌≡◌, ℕ, List, [], ◌∷◌, ◌++◌, length, Bool, true, false, not, ◌==◌, Option, Some, None, refl, sym, ◌∙◌, ap, arith, append_assoc, append-nil, eqb-true}
use Rattle.std.specs.Bool.{⊤}
use Rattle.std.specs.Io.KnownBytes.{IsAtEnd, Keeps, prepend_known}
use Rattle.rly_daemon_lines.specs.HelpersLineReader.{ReaderState, Fills, TakesLine, TakesPiece, has_newline, line_front}
use Rattle.rly_daemon_lines.specs.Lines.{lines_of}
use Rattle.rly_daemon_lines.proofs.Newlines.{lines_ended, lines_last, no_newline-append, kept_again}

-- a prefix of the remaining bytes was consumed, with no newline in it, and kept
abbrev pub TakesPart : Option (List ℕ) → Option (List ℕ) → List ℕ → Type 0
TakesPart None new kept = ⊤
TakesPart (Some xs) None kept = ⊥
TakesPart (Some xs) (Some ys) kept = (piece : List ℕ) × (xs ≡ piece ++ ys) × (has_newline piece ≡ false)
    × (kept ≡ line_front piece)

joined : (xs piece ahead ys more zs : List ℕ) → xs ≡ piece ++ (ahead ++ ys) → ahead ≡ [] → more ++ zs ≡ ys → xs ≡ (piece ++ more) ++ zs
joined xs piece ahead ys more zs h empty k =
    let regrouped : piece ++ (ahead ++ ys) ≡ (piece ++ more) ++ zs = rw (empty, ← k) (sym (append_assoc piece more zs)) in
    h ∙ regrouped

rest_none : (xs piece ahead ys more zs : List ℕ) → xs ≡ piece ++ (ahead ++ ys) → ahead ≡ [] → more ++ zs ≡ ys → more ≡ [] → zs ≡ [] → xs ≡ piece
rest_none xs piece ahead ys more zs h empty k none end =
    let bare : (piece ++ more) ++ zs ≡ piece = rw (none, end) (simp append-nil) in
    joined xs piece ahead ys more zs h empty k ∙ bare

last_found : (xs line : List ℕ) → has_newline xs ≡ false → line ≡ line_front xs → (length line == 0) ≡ false → lines_of xs ≡ xs ∷ []
last_found [] line h kept some = let none : true ≡ false = rw kept at some in let no : ⊥ = cc in absurd no
last_found (x ∷ xs) line h kept some = lines_last (x ∷ xs) h (omega arith)

last_none : (xs line : List ℕ) → line ≡ line_front xs → (length line == 0) ≡ true → xs ≡ []
last_none [] line kept none = refl
last_none (x ∷ xs) line kept none = let some : (length (line_front (x ∷ xs)) == 0) ≡ true = rw kept at none in absurd (omega (arith, eqb-true _ _ some))

pub part_more : (known : Option (List ℕ)) (old filled new : ReaderState) (left rest : Option (List ℕ))
    → TakesPart known (prepend_known old.ahead left) old.line → old.ahead ≡ [] → Fills true old filled
    → Keeps left (prepend_known filled.ahead rest) → TakesPiece false filled new → TakesPart known (prepend_known new.ahead rest) new.line
part_more None old filled new left rest h empty f k p = tt
part_more (Some xs) old filled new None rest h empty f k p = absurd h
part_more (Some xs) old filled new (Some ys) None h empty f k p = absurd k
part_more (Some xs) old filled new (Some ys) (Some zs) h empty f k p = (
  h.0 ++ filled.ahead,
  rw p.1 (joined xs h.0 old.ahead ys filled.ahead zs h.1 empty k),
  no_newline-append h.0 filled.ahead h.2 p.0,
  let kept : line_front (filled.line ++ filled.ahead) ≡ line_front (h.0 ++ filled.ahead) = rw (f.0, h.3) (kept_again 20481 h.0 filled.ahead) in p.2 ∙ kept,
)

pub line_begun : (before after : ReaderState) (left : Option (List ℕ)) → TakesPiece true (record before { line = [] }) after
    → TakesLine true (prepend_known before.ahead left) (prepend_known after.ahead left) after.line
line_begun before after None h = tt
line_begun before after (Some ys) h =
    (h.0, rw (h.2, append_assoc h.0 (10 ∷ after.ahead) ys) (lines_ended h.0 (after.ahead ++ ys) h.1), h.3)

pub line_more : (known : Option (List ℕ)) (old filled new : ReaderState) (left rest : Option (List ℕ))
    → TakesPart known (prepend_known old.ahead left) old.line → old.ahead ≡ [] → Fills true old filled
    → Keeps left (prepend_known filled.ahead rest) → TakesPiece true filled new → TakesLine true known (prepend_known new.ahead rest) new.line
line_more None old filled new left rest h empty f k p = tt
line_more (Some xs) old filled new None rest h empty f k p = absurd h
line_more (Some xs) old filled new (Some ys) None h empty f k p = absurd k
line_more (Some xs) old filled new (Some ys) (Some zs) h empty f k p =
    let split : (h.0 ++ filled.ahead) ++ zs ≡ (h.0 ++ p.0) ++ 10 ∷ (new.ahead ++ zs) = rw p.2 (simp append_assoc) in
    let bytes : xs ≡ (h.0 ++ p.0) ++ 10 ∷ (new.ahead ++ zs) = joined xs h.0 old.ahead ys filled.ahead zs h.1 empty k ∙ split in
    let kept : line_front (filled.line ++ p.0) ≡ line_front (h.0 ++ p.0) = rw (f.0, h.3) (kept_again 20481 h.0 p.0) in (
      h.0 ++ p.0,
      ap lines_of bytes ∙ lines_ended (h.0 ++ p.0) (new.ahead ++ zs) (no_newline-append h.0 p.0 h.2 p.1),
      p.3 ∙ kept,
    )

pub line_last : (known : Option (List ℕ)) (old new : ReaderState) (left rest : Option (List ℕ)) (empty_line : Bool)
    → TakesPart known (prepend_known old.ahead left) old.line → old.ahead ≡ [] → Fills false old new
    → Keeps left (prepend_known new.ahead rest) → IsAtEnd rest → (length new.line == 0) ≡ empty_line → TakesLine (not empty_line) known (prepend_known new.ahead rest) new.line
line_last None old new left rest true h empty f k end is = tt
line_last None old new left rest false h empty f k end is = tt
line_last (Some xs) old new None rest empty_line h empty f k end is = absurd h
line_last (Some xs) old new (Some ys) None empty_line h empty f k end is = absurd k
line_last (Some xs) old new (Some ys) (Some zs) false h empty f k end is =
    let whole : xs ≡ h.0 = rest_none xs h.0 old.ahead ys new.ahead zs h.1 empty k f.2 end in
    let one : lines_of xs ≡ h.0 ∷ lines_of (new.ahead ++ zs) = rw (whole, f.2, end) (last_found h.0 new.line h.2 (f.0 ∙ h.3) is) in
    (h.0, one, f.0 ∙ h.3)
line_last (Some xs) old new (Some ys) (Some zs) true h empty f k end is =
    let whole : xs ≡ h.0 = rest_none xs h.0 old.ahead ys new.ahead zs h.1 empty k f.2 end in
    let after : new.ahead ++ zs ≡ [] = rw (f.2, end) refl in
    (whole ∙ last_none h.0 new.line (f.0 ∙ h.3) is, after)
