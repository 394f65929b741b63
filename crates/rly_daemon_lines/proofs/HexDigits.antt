-- Pairs of hexadecimal digits, as `hex` decodes them.
use Rattle.std.proofs.Common.{◌≡◌, ℕ, ◌+◌, ◌*◌, ◌^◌, ◌/◌, ◌%◌, ◌<◌, ◌≤◌, Bool, true, false, List, length, take, drop, slice_index, slice_set, Some, Result, Ok, Err, refl, sym, ◌∙◌, ap, arith, bit_and}
use Rattle.std.specs.List.{list_all}
use Rattle.std.specs.Result.{is_ok}
use Rattle.std.proofs.lemmas.Grind.{common_steps}
use Rattle.std.proofs.lemmas.Nat.{and_block, and_mask}
use Rattle.std.proofs.lemmas.List.Elements.{All-get_or}
use Rattle.std.proofs.lemmas.List.Sums.{AllPass-from_list_all, list_all-from_AllPass}
use Rattle.hex.specs.Hex.{decode_of, decode_pairs, digit_or_error, hex_digit_value, is_hex_digit, pair_value, value_at}
use Rattle.hex.specs.declared.error.FromHexError.{FromHexError}
use Rattle.hex.proofs.HexLemmas.{decode_of-digits, decode_of-even, decode_of-ok}
use Rattle.hex.proofs.Pairs.{decode_done, decode_step, prepend}

-- a text that decodes, with its bytes
spelled : (r : Result (List ℕ) FromHexError) → is_ok r ≡ true → (bytes : List ℕ) × (r ≡ Ok bytes)
spelled (Ok bytes) h = (bytes, refl)
spelled (Err e) h = let no : ⊥ = cc in absurd no

-- a text decodes iff it is an even number of digits
pub decodes : (text : List ℕ) (digits : Bool) → length text % 2 ≡ 0 → digits ≡ list_all is_hex_digit text → digits ≡ is_ok (decode_of text)
decodes text true even h =
    let bytes = decode_of-digits text even (AllPass-from_list_all is_hex_digit text (sym h)) in
    sym (ap is_ok bytes.1)
decodes text false even h = by (decode_of text) refl where
  by : (r : Result (List ℕ) FromHexError) → decode_of text ≡ r → false ≡ is_ok (decode_of text)
  by (Ok bytes) e = let all = list_all-from_AllPass is_hex_digit text (decode_of-ok text bytes e).1 in let no : ⊥ = cc in absurd no
  by (Err error) e = sym (ap is_ok e)

-- each byte of a text that decodes is a digit
pub digit_at : (text : List ℕ) (i : ℕ) → is_ok (decode_of text) ≡ true → i < length text → is_hex_digit (slice_index text i) ≡ true
digit_at text i h within =
    let bytes = spelled (decode_of text) h in
    All-get_or (λ c. is_hex_digit c ≡ true) text i 0 within (decode_of-ok text bytes.0 bytes.1).1

-- a text that isn't empty decodes to one byte at least
pub some_byte : (text bytes : List ℕ) → 0 < length text → decode_of text ≡ Ok bytes → 0 < length bytes
some_byte text bytes some e = let twice : length text ≡ 2 * length bytes = (decode_of-ok text bytes e).2 in omega arith

pub even_length : (text : List ℕ) → is_ok (decode_of text) ≡ true → length text % 2 ≡ 0
even_length text h = let bytes = spelled (decode_of text) h in (decode_of-ok text bytes.0 bytes.1).0

-- the byte of two digits
pair_of_digits : (a b i high low : ℕ) → hex_digit_value a ≡ Some high → hex_digit_value b ≡ Some low → pair_value a b i ≡ Ok (high * 16 + low)
pair_of_digits a b i high low ha hb =
    let first : value_at a i ≡ Ok high = ap (digit_or_error a i) ha in
    let second : value_at b (i + 1) ≡ Ok low = ap (digit_or_error b (i + 1)) hb in
    rw (first, second) refl

-- a digit's value
value_of : (c : ℕ) → is_hex_digit c ≡ true → (hex_digit_value c ≡ Some (c % 16 + 9 * (c / 64))) × (c % 16 + 9 * (c / 64) < 16) × (c < 128)
value_of c h = grind (arith, common_steps)

-- the values of two digits, found in one number
abbrev pub values : ℕ → ℕ → ℕ
values a b = bit_and (a + b * 256) 3855 + 9 * bit_and ((a + b * 256) / 64) 257

values_apart : (a b : ℕ) → a < 128 → b < 128 → values a b ≡ a % 16 + 9 * (a / 64) + (b % 16 + 9 * (b / 64)) * 256
values_apart a b small_a small_b =
    let whole : a + b * 256 ≡ b * 2 ^ 8 + a = omega arith in
    let parts : (b * 2 ^ 8 + a) / 64 ≡ b / 64 * 2 ^ 8 + (b % 64 * 4 + a / 64) = omega arith in
    let ones : bit_and (b * 2 ^ 8 + a) (15 * 2 ^ 8 + 15) ≡ bit_and b 15 * 2 ^ 8 + bit_and a 15 = and_block 8 b 15 a 15 (omega arith) (omega arith) in
    let letters : bit_and (b / 64 * 2 ^ 8 + (b % 64 * 4 + a / 64)) (1 * 2 ^ 8 + 1) ≡ bit_and (b / 64) 1 * 2 ^ 8 + bit_and (b % 64 * 4 + a / 64) 1 =
    and_block 8 (b / 64) 1 (b % 64 * 4 + a / 64) 1 (omega arith) (omega arith) in
    rw (whole, parts, ones, letters, and_mask b 4, and_mask a 4, and_mask (b / 64) 1, and_mask (b % 64 * 4 + a / 64) 1) (omega arith)

-- so the byte of two digits is found from them
pub byte_of_digits : (a b : ℕ) → is_hex_digit a ≡ true → is_hex_digit b ≡ true
    → (values a b % 256 * 16 + values a b / 256 < 256) × ((i : ℕ) → pair_value a b i ≡ Ok (values a b % 256 * 16 + values a b / 256))
byte_of_digits a b ha hb =
    let first = value_of a ha in
    let second = value_of b hb in
    let found : values a b % 256 * 16 + values a b / 256 ≡ (a % 16 + 9 * (a / 64)) * 16 + (b % 16 + 9 * (b / 64)) = rw (values_apart a b first.2 second.2) (omega (arith, first.1, second.1)) in
    (omega (arith, found, first.1, second.1), λ i. pair_of_digits a b i (a % 16 + 9 * (a / 64)) (b % 16 + 9 * (b / 64)) first.0 second.0 ∙ ap Ok (sym found))

-- the bytes of the first pairs are there, and the others remain to be decoded
abbrev pub IsFilled : List ℕ → List ℕ → ℕ → Type 0
IsFilled text bytes i = decode_pairs 0 text ≡ prepend (take i bytes) (decode_pairs (2 * i) (drop (2 * i) text))

pub filled_more : (text bytes : List ℕ) (i byte : ℕ) → 2 * i + 1 < length text → i < length bytes
    → ((at : ℕ) → pair_value (slice_index text (2 * i)) (slice_index text (2 * i + 1)) at ≡ Ok byte)
    → IsFilled text bytes i → IsFilled text (slice_set bytes i byte) (i + 1)
filled_more text bytes i byte within room pair so_far = decode_step text bytes i byte within room (pair (2 * i)) so_far

pub filled_all : (text bytes : List ℕ) (i : ℕ) → is_ok (decode_of text) ≡ true → length bytes ≤ i → length text ≤ 2 * i → IsFilled text bytes i → decode_of text ≡ Ok bytes
filled_all text bytes i spelled whole used so_far = decode_of-even text (even_length text spelled) ∙ decode_done text bytes i whole used so_far
