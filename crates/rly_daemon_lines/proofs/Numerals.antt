-- The result of `parse` on decimal digits.
use Rattle.std.proofs.Common.{◌≡◌, ℕ, ◌<◌, ◌≤◌, ◌^◌, ◌==◌, ◌&&◌, ◌||◌, not, List, length, Bool, true, false, true≢false, nat_lt, rules, slice_index, Some, None, Result, Ok, Err, MatchResult, refl, subst, sym, ap, arith}
use Rattle.std.specs.Char.{is_ascii_digit}
use Rattle.std.specs.Fmt.{decimal}
use Rattle.std.specs.List.{list_all}
use Rattle.std.specs.Result.{OkIff, result_ok}
use Rattle.std.specs.Str.{IsUtf8}
use Rattle.std.specs.Str.Parse.{ParsesUnsigned, digits_value}
use Rattle.std.proofs.lemmas.Bool.{and_parts, ltb-true, lt-ltb, le-ltb}
use Rattle.std.proofs.lemmas.Fmt.{IsAscii-from_digits, decimal-digits_value, length-decimal-le}
use Rattle.std.proofs.lemmas.Str.{IsUtf8-from_ascii}
use Rattle.std.proofs.lemmas.Str.Parse.{IsNumeralModel, numerals_by_value, parse_digits}
use Rattle.rly_daemon_lines.specs.Grammar.{is_numeral, number_in}

own : IsNumeralModel (λ ds. list_all is_ascii_digit ds ≡ true) (digits_value 10)
own = numerals_by_value _ (search rules)

pub digits_in : (word : List ℕ) → is_numeral word ≡ true → list_all is_ascii_digit word ≡ true
digits_in word h = (and_parts _ _ (and_parts _ _ h).0).0

pub digits_utf8 : (word : List ℕ) → is_numeral word ≡ true → IsUtf8 word
digits_utf8 word h = IsUtf8-from_ascii word (IsAscii-from_digits word (own.to word (digits_in word h)))

number_from : {E : Type 0} (word : List ℕ) (r : Result ℕ E) → OkIff r ((0 < length word) × (digits_value 10 word < 2 ^ 64)) (digits_value 10 word) → 0 < length word → is_numeral word ≡ true → result_ok r ≡ number_in word
number_from word (Ok n) h some numeral = let fits : nat_lt (digits_value 10 word) (2 ^ 64) ≡ true = lt-ltb _ _ h.0.1 in rw (numeral, fits, h.1) refl
number_from word (Err e) h some numeral = by (nat_lt (digits_value 10 word) (2 ^ 64)) refl where
  by : (b : Bool) → nat_lt (digits_value 10 word) (2 ^ 64) ≡ b → None ≡ number_in word
  by true fits = absurd (h (some, ltb-true _ _ fits))
  by false fails = rw (numeral, fails) refl

pub number_parsed : {E : Type 0} (word : List ℕ) (r : Result ℕ E) → ParsesUnsigned 64 10 word r → is_numeral word ≡ true → result_ok r ≡ number_in word
number_parsed word r h numeral =
    let some : 0 < length word = ltb-true _ _ (and_parts _ _ (and_parts _ _ numeral).0).1 in
    number_from word r (parse_digits own 64 word r h (digits_in word numeral)) some numeral

-- a result that isn't an error
pub never_err : {T E : Type 0} (r : Result T E) (P : T → Type 0) (Q : E → Type 0) → MatchResult r P Q → result_ok r ≡ None → ((e : E) → Q e → ⊥) → ⊥
never_err (Ok x) P Q h none no_error = cc
never_err (Err e) P Q h none no_error = no_error e h

pub ok_value : {T E : Type 0} (r : Result T E) (P : T → Type 0) (Q : E → Type 0) (x : T) → MatchResult r P Q → result_ok r ≡ Some x → P x
ok_value (Ok y) P Q x h is = let same : y ≡ x = cc in subst P same h
ok_value (Err e) P Q x h is = let no : ⊥ = cc in absurd no

not_both : (a b : Bool) → (a || not b) ≡ true → a ≡ false → b ≡ false
not_both true b h e = absurd (true≢false e)
not_both false true h e = absurd (true≢false (sym h))
not_both false false h e = refl

-- a number has at most 20 digits
numeral_short : (word : List ℕ) → is_numeral word ≡ true → digits_value 10 word < 2 ^ 64 → 20 < length word → ⊥
numeral_short word numeral small long =
    let parts = and_parts (list_all is_ascii_digit word && nat_lt 0 (length word)) (nat_lt (length word) 2 || not (slice_index word 0 == 48)) numeral in
    let several : nat_lt (length word) 2 ≡ false = le-ltb _ _ (omega (arith, long)) in
    let first : slice_index word 0 == 48 ≡ false = not_both _ _ parts.1 several in
    let lead : slice_index word 0 ≡ 48 → length word ≡ 1 = λ zero. let no : ⊥ = true≢false (rw zero at first) in absurd no in
    let same : decimal (digits_value 10 word) ≡ word = decimal-digits_value own word (digits_in word numeral) (omega (arith, long)) lead small in
    let few : length (decimal (digits_value 10 word)) ≤ 20 = length-decimal-le 20 (digits_value 10 word) (omega arith) (omega (arith, small)) small in
    omega (arith, few, long, ap length same)

pub long_number : (word : List ℕ) → 20 < length word → number_in word ≡ None
long_number word long = by (is_numeral word && nat_lt (digits_value 10 word) (2 ^ 64)) refl where
  by : (b : Bool) → (is_numeral word && nat_lt (digits_value 10 word) (2 ^ 64)) ≡ b → number_in word ≡ None
  by true e =
      let parts = and_parts (is_numeral word) (nat_lt (digits_value 10 word) (2 ^ 64)) e in
      absurd (numeral_short word parts.0 (ltb-true _ _ parts.1) long)
  by false e = rw e refl
