-- The digits in a file's name, and their value.
use Rattle.std.proofs.Common.{◌≡◌, ◌∙◌, ℕ, ◌<◌, ◌^◌, ◌++◌, ◌-◌, ◌≤◌, [], List, length, replicate, suc, zero, Bool, true, false, nat_lt, rules, Some, None, Result, Ok, Err, MatchResult, refl, subst, sym, ap, arith, append_assoc, drop, inl, inr, take, take-append-drop}
use denote.Ref.{Bor}
use Rattle.std.specs.Prelude.{◌≢◌, ◌==◌, IfSome, MatchOption, Option, codes, if◌then◌else◌}
use Rattle.std.proofs.lemmas.Bool.Decides.{nat_tests}
use Rattle.std.proofs.Math.Seq.{drop-append_seam, take-append_seam}
use Rattle.std.specs.Char.{is_ascii_digit}
use Rattle.std.specs.Fmt.{char_count, decimal, format_spec, padded_integral}
use Rattle.std.specs.List.{list_all}
use Rattle.std.specs.Result.{OkIff, result_ok}
use Rattle.std.specs.Str.{IsUtf8}
use Rattle.std.specs.Str.Parse.{ParsesUnsigned, digits_value}
use Rattle.std.proofs.lemmas.Bool.{and_parts, eqb-true, ltb-true, lt-ltb}
use Rattle.std.proofs.lemmas.Fmt.{IsAscii-from_digits, digits_decimal, digits_value-decimal, length-decimal-le}
use Rattle.std.proofs.lemmas.List.Folds.{list_all-append}
use Rattle.std.proofs.lemmas.List.{append-nil, append_cancel_left, append_cancel_right, length-append, length-drop, length-replicate, take_all}
use Rattle.std.proofs.lemmas.Str.{IsUtf8-from_ascii}
use Rattle.std.proofs.lemmas.Str.Parse.{IsNumeralModel, numerals_by_value, parse_digits}
use Rattle.rly_folder.specs.declared.name.Area.{Area}
use Rattle.rly_folder_file.specs.FileNames.{IsFileName, IsLimit, NamesLimit, are_twenty_digits, file_name, limit_text, prefix_of, suffix_of, twenty_digits, value_in}

-- what `{:020}` writes
pub padded : (n : ℕ) → padded_integral (format_spec 32 0 4 20 (2 ^ 64 - 1)) false [] (decimal n) ≡ twenty_digits n
unfolding padded_integral char_count
padded n = search (rules, append-nil)

own : IsNumeralModel (λ ds. list_all is_ascii_digit ds ≡ true) (digits_value 10)
own = numerals_by_value _ (search rules)

twenty : (digits : List ℕ) → are_twenty_digits digits ≡ true → (length digits ≡ 20) × (list_all is_ascii_digit digits ≡ true)
twenty digits h = let parts = and_parts _ _ h in (eqb-true _ _ parts.0, parts.1)

pub digits_utf8 : (digits : List ℕ) → are_twenty_digits digits ≡ true → IsUtf8 digits
digits_utf8 digits h = IsUtf8-from_ascii digits (IsAscii-from_digits digits (own.to digits (twenty digits h).1))

value_from : {E : Type 0} (digits : List ℕ) (r : Result ℕ E) → OkIff r ((0 < length digits) × (digits_value 10 digits < 2 ^ 64)) (digits_value 10 digits) → 0 < length digits
    → are_twenty_digits digits ≡ true → result_ok r ≡ value_in digits
value_from digits (Ok n) h some are = let fits : nat_lt (digits_value 10 digits) (2 ^ 64) ≡ true = lt-ltb _ _ h.0.1 in rw (are, fits, h.1) refl
value_from digits (Err e) h some are = by (nat_lt (digits_value 10 digits) (2 ^ 64)) refl where
  by : (b : Bool) → nat_lt (digits_value 10 digits) (2 ^ 64) ≡ b → None ≡ value_in digits
  by true fits = absurd (h (some, ltb-true _ _ fits))
  by false fails = rw (are, fails) refl

pub value_parsed : {E : Type 0} (digits : List ℕ) (r : Result ℕ E) → ParsesUnsigned 64 10 digits r → are_twenty_digits digits ≡ true → result_ok r ≡ value_in digits
value_parsed digits r h are =
    let parts = twenty digits are in
    let some : 0 < length digits = omega (arith, parts.0) in
    value_from digits r (parse_digits own 64 digits r h parts.1) some are

-- a result that isn't an error
pub never_err : {T E : Type 0} (r : Result T E) (P : T → Type 0) (Q : E → Type 0) → MatchResult r P Q → result_ok r ≡ None → ((e : E) → Q e → ⊥) → ⊥
never_err (Ok x) P Q h none no_error = cc
never_err (Err e) P Q h none no_error = no_error e h

pub ok_value : {T E : Type 0} (r : Result T E) (P : T → Type 0) (Q : E → Type 0) (x : T) → MatchResult r P Q → result_ok r ≡ Some x → P x
ok_value (Ok y) P Q x h is = let same : y ≡ x = cc in subst P same h
ok_value (Err e) P Q x h is = let no : ⊥ = cc in absurd no

-- a name has one part between prefix and suffix
same_part : (p s one other name : List ℕ) → name ≡ p ++ (one ++ s) → name ≡ p ++ (other ++ s) → one ≡ other
same_part p s one other name is also = append_cancel_right one other s (append_cancel_left p (one ++ s) (other ++ s) (sym is ∙ also))

pub split : (p s name rest : List ℕ) (r : Option (Bor (List ℕ))) → name ≡ p ++ rest → MatchOption r ((front : List ℕ) → rest ≢ front ++ s) (λ digits. rest ≡ digits.now ++ s)
    → IfSome r (λ digits. name ≡ p ++ (digits.now ++ s))
split p s name rest None is found = tt
split p s name rest (Some digits) is found = is ∙ ap (λ part. p ++ part) found

-- digits that have a value are 20
value_twenty : (digits : List ℕ) (number : ℕ) → value_in digits ≡ Some number → are_twenty_digits digits ≡ true
value_twenty digits number is = by_test (are_twenty_digits digits) refl where
  by_test : (b : Bool) → are_twenty_digits digits ≡ b → are_twenty_digits digits ≡ true
  by_test true are = are
  by_test false fails = let none : value_in digits ≡ None = rw fails refl in absurd (cc (none, is))

-- the part of a name between prefix and suffix, from its digits and the text after them
pub record Parts (middle : List ℕ) (number limit : ℕ) : Type 0 where
  pub long : 20 ≤ length middle
  pub value_is : value_in (take 20 middle) ≡ Some number
  pub counts : 0 < number
  pub limit_is : IsLimit limit (drop 20 middle)

parts_of : (digits text : List ℕ) (number limit : ℕ) → length digits ≡ 20 → value_in digits ≡ Some number → 0 < number → IsLimit limit text → Parts (digits ++ text) number limit
parts_of digits text number limit long value some is = record {
  long = omega (arith, length-append digits text, long);
  value_is = ap value_in (ap (λ n. take n (digits ++ text)) (sym long) ∙ take-append_seam digits text) ∙ value;
  counts = some;
  limit_is = subst (IsLimit limit) (sym (ap (λ n. drop n (digits ++ text)) (sym long) ∙ drop-append_seam digits text)) is;
}

pub parts : (area : Area) (middle name : List ℕ) (number limit : ℕ) → name ≡ prefix_of area ++ (middle ++ suffix_of area) → IsFileName area number limit name
    → Parts middle number limit
parts area middle name number limit is file =
    let same : middle ≡ file.digits ++ file.text = same_part (prefix_of area) (suffix_of area) middle (file.digits ++ file.text) name is file.name_is in
    subst (λ m. Parts m number limit) (sym same)
    (parts_of file.digits file.text number limit (twenty file.digits (value_twenty file.digits number file.value_is)).0 file.value_is file.counts file.limit_is)

pub whole_name : (area : Area) (middle name : List ℕ) (number limit : ℕ) → name ≡ prefix_of area ++ (middle ++ suffix_of area) → Parts middle number limit
    → IsFileName area number limit name
whole_name area middle name number limit is has = record {
  digits = take 20 middle;
  text = drop 20 middle;
  name_is = is ∙ ap (λ m. prefix_of area ++ (m ++ suffix_of area)) (sym (take-append-drop 20 middle));
  value_is = has.value_is;
  counts = has.counts;
  limit_is = has.limit_is;
}

-- the slice behind the digits
pub all_behind : (middle : List ℕ) → take (length middle - 20) (drop 20 middle) ≡ drop 20 middle
all_behind middle = take_all (length middle - 20) (drop 20 middle) (omega (arith, length-drop 20 middle))

-- names that aren't a file's, by their middle
module _ (area : Area) (middle name : List ℕ) (number limit : ℕ) (is : name ≡ prefix_of area ++ (middle ++ suffix_of area)) where
  pub no_value : value_in (take 20 middle) ≡ None → ¬ IsFileName area number limit name
  no_value none file = let p = parts area middle name number limit is file in cc (none, p.value_is)

  pub no_limit : ((l : ℕ) → ¬ IsLimit l (drop 20 middle)) → ¬ IsFileName area number limit name
  no_limit none file = none limit (parts area middle name number limit is file).limit_is

  pub no_zero : (value : ℕ) → value_in (take 20 middle) ≡ Some value → ¬ (0 < value) → ¬ IsFileName area number limit name
  no_zero value some none file = let p = parts area middle name number limit is file in
      let same : Some value ≡ Some number = sym some ∙ p.value_is in let also : value ≡ number = cc same in none (rw also p.counts)

some_same : (one other : ℕ) → Some one ≡ Some other → one ≡ other
some_same one other is = cc is

-- a text has one limit
pub limit_parts : (digits text : List ℕ) (limit : ℕ) → text ≡ codes ".limit-" ++ digits → IsLimit limit text → NamesLimit limit (codes ".limit-" ++ digits)
limit_parts digits text limit is (inl none) = absurd (cc (is, none.1))
limit_parts digits text limit is (inr names) = subst (NamesLimit limit) is names

pub limit_value : (digits : List ℕ) (limit : ℕ) → NamesLimit limit (codes ".limit-" ++ digits) → (value_in digits ≡ Some limit) × (0 < limit) × (limit < 2 ^ 40)
limit_value digits limit names =
    let same : digits ≡ names.digits = append_cancel_left (codes ".limit-") digits names.digits names.text_is in (ap value_in same ∙ names.value_is, names.counts, names.fits)

one_limit : (one other : ℕ) (text : List ℕ) → IsLimit one text → IsLimit other text → one ≡ other
one_limit one other text (inl none) (inl also) = none.0 ∙ sym also.0
one_limit one other text (inl none) (inr names) = absurd (cc (none.1, names.text_is))
one_limit one other text (inr names) (inl none) = absurd (cc (none.1, names.text_is))
one_limit one other text (inr names) (inr also) =
    let second = limit_value names.digits other (limit_parts names.digits text other names.text_is (inr also)) in some_same one other (sym names.value_is ∙ second.0)

zeros_add_nothing : (k : ℕ) (digits : List ℕ) → digits_value 10 (replicate k 48 ++ digits) ≡ digits_value 10 digits
zeros_add_nothing zero digits = refl
zeros_add_nothing (suc k) digits = zeros_add_nothing k digits

zeros_are_digits : (k : ℕ) → list_all is_ascii_digit (replicate k 48) ≡ true
zeros_are_digits zero = refl
zeros_are_digits (suc k) = zeros_are_digits k

value_of : (digits : List ℕ) (number : ℕ) → are_twenty_digits digits ≡ true → digits_value 10 digits ≡ number → number < 2 ^ 64 → value_in digits ≡ Some number
value_of digits number are value small = let fits : nat_lt number (2 ^ 64) ≡ true = lt-ltb _ _ small in rw (are, value, fits) refl

are_twenty : (digits : List ℕ) → length digits ≡ 20 → list_all is_ascii_digit digits ≡ true → are_twenty_digits digits ≡ true
are_twenty digits long each = rw (long, each) refl

twenty_value : (number : ℕ) → number < 2 ^ 64 → value_in (twenty_digits number) ≡ Some number
twenty_value number small =
    let few : length (decimal number) ≤ 20 = length-decimal-le 20 number (omega arith) (omega (arith, small)) small in
    let zeros : List ℕ = replicate (20 - length (decimal number)) 48 in
    let long : length (zeros ++ decimal number) ≡ 20 = omega (arith, length-append zeros (decimal number), length-replicate {A = ℕ} (20 - length (decimal number)) 48, few) in
    let each : list_all is_ascii_digit (zeros ++ decimal number) ≡ true =
    list_all-append is_ascii_digit zeros (decimal number) ∙ rw (zeros_are_digits (20 - length (decimal number)), digits_decimal own number small) refl in
    let value : digits_value 10 (zeros ++ decimal number) ≡ number = zeros_add_nothing (20 - length (decimal number)) (decimal number) ∙ digits_value-decimal own number small in
    value_of (zeros ++ decimal number) number (are_twenty (zeros ++ decimal number) long each) value small

text_is_read : (limit : ℕ) → limit < 2 ^ 40 → IsLimit limit (limit_text limit)
text_is_read limit small = by_test (limit == 0) refl where
  some : (limit == 0) ≡ false → 0 < limit
  some is = grind (arith, nat_tests, is)

  by_test : (b : Bool) → (limit == 0) ≡ b → IsLimit limit (if b then [] else codes ".limit-" ++ twenty_digits limit)
  by_test true is = inl (eqb-true limit 0 is, refl)
  by_test false is = inr (record {
    digits = twenty_digits limit;
    text_is = refl;
    value_is = twenty_value limit (omega (arith, small));
    counts = some is;
    fits = small;
  })

pub name_is_read : (area : Area) (number limit : ℕ) → 0 < number → number < 2 ^ 64 → limit < 2 ^ 40 → IsFileName area number limit (file_name area number limit)
name_is_read area number limit some small fits = record {
  digits = twenty_digits number;
  text = limit_text limit;
  name_is = ap (λ rest. prefix_of area ++ rest) (sym (append_assoc (twenty_digits number) (limit_text limit) (suffix_of area)));
  value_is = twenty_value number small;
  counts = some;
  limit_is = text_is_read limit fits;
}

pub one_number : (area : Area) (one other limit second : ℕ) (name : List ℕ) → IsFileName area one limit name → IsFileName area other second name
    → (one ≡ other) × (limit ≡ second)
one_number area one other limit second name first also =
    let mine = parts area (first.digits ++ first.text) name one limit first.name_is first in
    let its = parts area (first.digits ++ first.text) name other second first.name_is also in
    (some_same one other (sym mine.value_is ∙ its.value_is), one_limit limit second (drop 20 (first.digits ++ first.text)) mine.limit_is its.limit_is)
