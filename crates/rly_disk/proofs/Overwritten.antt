-- A list with bytes written over it.
use Rattle.std.proofs.Common.{◌≡◌, ◌≤◌, ◌<◌, ◌+◌, ◌-◌, ℕ, List, length, get_or, slice_range, arith, length-append, length-take, length-drop}
use Rattle.std.proofs.lemmas.List.{ext_get_or, places}
use Rattle.rly_disk.specs.DiskModel.{SameOutside, bytes_after_write}
use Rattle.rly_disk.proofs.Ranges.{wider}

module _ (place : ℕ) (bytes old : List ℕ) (fits : place + length bytes ≤ length old) where
  pub overwritten_in : (i : ℕ) → place ≤ i → i < place + length bytes → get_or (bytes_after_write place bytes old) i 0 ≡ get_or bytes (i - place) 0
  overwritten_in i low high = grind (arith, places)

  pub overwritten_outside : SameOutside place (length bytes) old (bytes_after_write place bytes old)
  overwritten_outside = record { same_length = simp (length-append, length-take, length-drop) (omega arith); each = λ i out. grind (arith, places) }

-- a write of at most the bytes of a range
pub overwritten_within : (place n : ℕ) (bytes old : List ℕ) → length bytes ≤ n → place + n ≤ length old → SameOutside place n old (bytes_after_write place bytes old)
overwritten_within place n bytes old short room = wider _ n place (length bytes) (omega arith) (omega arith) (overwritten_outside place bytes old (omega arith))

-- the bytes in a range, written over the previous list
pub written_over : {old new : List ℕ} (place n : ℕ) → place + n ≤ length old → SameOutside place n old new
    → bytes_after_write place (slice_range new place (place + n)) old ≡ new
written_over place n fits same =
    ext_get_or 0 _ _ (simp (length-append, length-take, length-drop) (omega (arith, same.same_length))) (λ i h. grind (arith, places, same.each i))
