-- The index of the first byte of a value.
use Rattle.std.proofs.Common.{◌≡◌, ℕ, ◌==◌, List, length, Option, Some, None, arith}
use Rattle.std.specs.List.{position, position_or_len}
use Rattle.std.proofs.lemmas.Bool.{false_from_ne_true}
use Rattle.std.proofs.lemmas.List.Sums.{position_or_len_is}
use Rattle.memchr.specs.Find.{IsFirstByte, is_byte}

-- `memchr` finds the index of `position`
pub place_of : (byte : ℕ) (bytes : List ℕ) (found : Option ℕ) → IsFirstByte (is_byte byte) bytes found → found ≡ position (λ b. b == byte) bytes
place_of byte bytes None h =
    let place : position_or_len (λ b. b == byte) bytes ≡ length bytes =
    position_or_len_is (λ b. b == byte) bytes (length bytes) 0 (omega arith) (λ k before. false_from_ne_true _ (h k (omega arith) before)) (λ within. absurd (omega (arith, within))) in
    grind (arith, place)
place_of byte bytes (Some k) h =
    let place : position_or_len (λ b. b == byte) bytes ≡ k =
    position_or_len_is (λ b. b == byte) bytes k 0 (omega (arith, h.0.high)) (λ j before. false_from_ne_true _ (h.0.before j (omega arith) before)) (λ within. h.1) in
    grind (arith, place)
