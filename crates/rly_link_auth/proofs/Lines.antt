-- The line of a key is read as that key.
use Rattle.std.proofs.Common.{◌≡◌, ℕ, ◌+◌, ◌-◌, List, [], ◌∷◌, ◌++◌, length, Some, None, refl, ◌∙◌, ap, arith, length-append}
use Rattle.std.proofs.Math.Seq.{get_or-append_seam, take-append_seam}
use Rattle.std.specs.Result.{result_ok}
use Rattle.hex.specs.Hex.{IsBytes, encode_lower, lower_digits}
use Rattle.hex.proofs.HexLemmas.{decode_sized-encode_lower, length-encode_with}
use Rattle.rly_link_auth.specs.Keys.{keys_in, keys_in_lines, line_key, one_key, without_end}

-- a text of 64 bytes with a newline after it
without_end-line : (text : List ℕ) → length text ≡ 64 → without_end (text ++ 10 ∷ []) ≡ text
without_end-line text h =
    let len : length (text ++ 10 ∷ []) ≡ length text + 1 = length-append text (10 ∷ []) in
    let e : length (text ++ 10 ∷ []) - 1 ≡ length text = omega (arith, len) in
    rw (e, get_or-append_seam text 10 [] 0, take-append_seam text (10 ∷ [])) refl

keys_in_lines-one : (text : List ℕ) → length text ≡ 64 → keys_in_lines text ≡ one_key (line_key text)
keys_in_lines-one text h = rw h refl

pub keys_in-key_line : (key : List ℕ) → length key ≡ 32 → IsBytes key → keys_in (encode_lower key ++ 10 ∷ []) ≡ Some (record { first = key; second = None })
unfolding keys_in
keys_in-key_line key len bytes =
    let e : length (encode_lower key) ≡ 64 = omega (arith, length-encode_with lower_digits key) in
    ap keys_in_lines (without_end-line (encode_lower key) e)
    ∙ keys_in_lines-one (encode_lower key) e
    ∙ ap (λ r. one_key (result_ok r)) (decode_sized-encode_lower key 32 len bytes)
