-- The bytes outside a range, and those that a write leaves inside it.
use Rattle.std.proofs.Common.{◌≡◌, ◌⊎◌, ◌≤◌, ◌<◌, ◌+◌, ◌∙◌, ℕ, List, length, get_or, take, drop, arith, sym, inl, length-append, length-take, length-drop}
use Rattle.std.proofs.lemmas.List.{ext_get_or, places}
use Rattle.rly_disk.specs.DiskModel.{SameOutside, bytes_after_write}

pub same_outside_again : {a b c : List ℕ} (place n : ℕ) → SameOutside place n a b → SameOutside place n b c → SameOutside place n a c
same_outside_again place n first second = record { same_length = second.same_length ∙ first.same_length; each = λ i out. second.each i out ∙ first.each i out }

pub turned : {a b : List ℕ} (place n : ℕ) → SameOutside place n a b → SameOutside place n b a
turned place n same = record { same_length = sym same.same_length; each = λ i out. sym (same.each i out) }

-- a byte outside a range is outside each part of it
pub wider : {old new : List ℕ} (from m place n : ℕ) → from ≤ place → place + n ≤ from + m → SameOutside place n old new → SameOutside from m old new
wider from m place n begins ends same = record { same_length = same.same_length; each = λ i out. same.each i (grind arith) }

-- two lists are equal if they are the same in a range, and outside it both equal a third
pub same_range : (place n : ℕ) {old a b : List ℕ} → SameOutside place n old a → SameOutside place n old b
    → ((i : ℕ) → place ≤ i → i < place + n → get_or a i 0 ≡ get_or b i 0) → a ≡ b
same_range place n {a = a} {b} first second inside =
    ext_get_or 0 a b (first.same_length ∙ sym second.same_length) (λ i h. grind (arith, first.each i, second.each i, inside i))

module _ {old new : List ℕ} (place n : ℕ) (same : SameOutside place n old new) where
  -- a part that doesn't overlap the range
  pub part : (from k : ℕ) → (from + k ≤ place) ⊎ (place + n ≤ from) → take k (drop from new) ≡ take k (drop from old)
  part from k apart = ext_get_or 0 _ _ (simp (length-take, length-drop) (omega (arith, same.same_length))) (λ i h. grind (arith, places, same.each (from + i)))

  -- the bytes before the range
  pub front : (k : ℕ) → k ≤ place → take k new ≡ take k old
  front k le = part 0 k (inl (omega arith))

  -- the bytes after it
  pub behind : (k : ℕ) → place + n ≤ k → drop k new ≡ drop k old
  behind k le = ext_get_or 0 _ _ (simp length-drop (omega (arith, same.same_length))) (λ i h. grind (arith, places, same.each (k + i)))

-- the bytes that a write leaves in its range
pub part-overwritten : (place : ℕ) (bytes old : List ℕ) → place ≤ length old → take (length bytes) (drop place (bytes_after_write place bytes old)) ≡ bytes
part-overwritten place bytes old le = ext_get_or 0 _ _ (simp (length-take, length-drop, length-append) (omega arith)) (λ i h. grind (arith, places))
