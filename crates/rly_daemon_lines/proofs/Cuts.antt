-- Cutting a list at its first element that passes.
use Rattle.std.proofs.Common.{◌≡◌, ℕ, zero, suc, ◌+◌, ◌<◌, List, [], ◌∷◌, length, slice_index, take, drop, Bool, true, false, Option, Some, None, MatchOption, refl, sym, ◌∙◌, arith, add-one, ◌==◌}
use Rattle.rly_daemon_lines.specs.Grammar.{words_of}
use Rattle.rly_daemon_lines.specs.HelpersLineReader.{HasTwo}
use Rattle.std.specs.Option.{is_some}
use Rattle.std.specs.List.{slice_split, position, position_from}
use Rattle.std.proofs.lemmas.Iterator.Adapters.{position_from-zero}

-- the parts before and after the index of the first element that passes
abbrev pub CutsAt : (ℕ → Bool) → ℕ → List ℕ → Option ℕ → Type 0
CutsAt p k xs None = slice_split p xs ≡ xs ∷ []
CutsAt p k xs (Some at) = (i : ℕ) × (at ≡ k + i) × (slice_split p xs ≡ take i xs ∷ slice_split p (drop (i + 1) xs))

later : (p : ℕ → Bool) (k x : ℕ) (xs : List ℕ) → p x ≡ false → (o : Option ℕ) → CutsAt p (k + 1) xs o → CutsAt p k (x ∷ xs) o
later p k x xs fails None h = rw fails (rw h refl)
later p k x xs fails (Some at) h = (h.0 + 1, omega arith, rw (fails, h.2) (simp add-one))

first : (p : ℕ → Bool) (k x : ℕ) (xs : List ℕ) → p x ≡ true → CutsAt p k (x ∷ xs) (Some k)
first p k x xs passes = (0, omega arith, rw passes refl)

cuts_at : (p : ℕ → Bool) (k x : ℕ) (xs : List ℕ) (b : Bool) → p x ≡ b → CutsAt p (k + 1) xs (position_from p (k + 1) xs) → CutsAt p k (x ∷ xs) (position_from p k (x ∷ xs))
cuts_at p k x xs true passes h = rw passes (first p k x xs passes)
cuts_at p k x xs false fails h = rw fails (later p k x xs fails (position_from p (k + 1) xs) h)

pub cuts_from : (p : ℕ → Bool) (k : ℕ) (xs : List ℕ) → CutsAt p k xs (position_from p k xs)
cuts_from p k [] = refl
cuts_from p k (x ∷ xs) = cuts_at p k x xs (p x) refl (cuts_from p (k + 1) xs)

fails_first : (p : ℕ → Bool) (k x : ℕ) (xs : List ℕ) (b : Bool) → p x ≡ b → position_from p k (x ∷ xs) ≡ None → (b ≡ false) × (position_from p (k + 1) xs ≡ None)
fails_first p k x xs true passes e = let some : Some k ≡ None = rw passes at e in let no : ⊥ = cc in absurd no
fails_first p k x xs false fails e = (refl, rw fails at e)

fails_from : (p : ℕ → Bool) (k i : ℕ) (xs : List ℕ) → position_from p k xs ≡ None → i < length xs → p (slice_index xs i) ≡ false
fails_from p k i [] e within = absurd (omega (arith, within))
fails_from p k zero (x ∷ xs) e within = (fails_first p k x xs (p x) refl e).0
fails_from p k (suc i) (x ∷ xs) e within = fails_from p (k + 1) i xs (fails_first p k x xs (p x) refl e).1 (omega (arith, within))

-- if none passes
pub fails_at : (p : ℕ → Bool) (xs : List ℕ) (i : ℕ) → position p xs ≡ None → i < length xs → p (slice_index xs i) ≡ false
fails_at p xs i e within = fails_from p 0 i xs (sym (position_from-zero p xs) ∙ e) within

pub cut_none : (p : ℕ → Bool) (xs : List ℕ) → position p xs ≡ None → slice_split p xs ≡ xs ∷ []
cut_none p xs e = rw (sym (position_from-zero p xs) ∙ e) at (cuts_from p 0 xs)

pub cut_some : (p : ℕ → Bool) (xs : List ℕ) (at : ℕ) → position p xs ≡ Some at → slice_split p xs ≡ take at xs ∷ slice_split p (drop (at + 1) xs)
cut_some p xs at e =
    let h = rw (sym (position_from-zero p xs) ∙ e) at (cuts_from p 0 xs) in
    let same : h.0 ≡ at = omega arith in
    rw (← same) h.2

part_at : (p : ℕ → Bool) (x : ℕ) (xs : List ℕ) (b : Bool) → p x ≡ b → ((part : List ℕ) × (parts : List (List ℕ)) × (slice_split p xs ≡ part ∷ parts))
    → (part : List ℕ) × (parts : List (List ℕ)) × (slice_split p (x ∷ xs) ≡ part ∷ parts)
part_at p x xs true passes h = ([], slice_split p xs, rw passes refl)
part_at p x xs false fails h = (x ∷ h.0, h.1, rw (fails, h.2) refl)

-- a list that is cut has a first part
pub part_first : (p : ℕ → Bool) (xs : List ℕ) → (part : List ℕ) × (parts : List (List ℕ)) × (slice_split p xs ≡ part ∷ parts)
part_first p [] = ([], [], refl)
part_first p (x ∷ xs) = part_at p x xs (p x) refl (part_first p xs)

-- if a text is cut there are two words
pub two_words : {A : Type 0} (o : Option A) (P : Type 0) (front behind : A → List ℕ) (text : List ℕ) → MatchOption o P (λ x. words_of text ≡ front x ∷ words_of (behind x)) → is_some o ≡ true → HasTwo (words_of text)
two_words None P front behind text h some = let no : ⊥ = cc in absurd no
two_words (Some x) P front behind text h some =
    let more = part_first (λ b. b == 32) (behind x) in
    (front x, more.0, more.1, rw (← more.2) h)
