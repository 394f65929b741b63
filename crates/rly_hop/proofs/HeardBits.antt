-- Setting a bit of a Heard sets that one alone.
use Rattle.std.proofs.Common.{◌≡◌, ℕ, ◌-◌, ◌^◌, ◌<◌, ◌≤◌, Bool, true, false, ◌||◌, ◌==◌, nat_lt, max, bit_or, sym, ap, subst, ◌∙◌, inl, inr, arith}
use Rattle.std.specs.Int.{bit_at}
use Rattle.std.proofs.lemmas.Bool.{cases_eq, cases_lt, eq-eqb, eqb-false, eqb-true, le-ltb, lt-ltb, ne_eqb}
use Rattle.std.proofs.lemmas.Nat.{or_lt, pow_below}
use Rattle.std.proofs.lemmas.Nat.Bits.{bit_at-lt, bit_at-pow_other, bit_at-pow_same, bit_at-zero, bit_at_or, same_from_bits_below}
use Rattle.rly_hop.specs.HeardBits.{marks, with_mark}

-- ---- below place 64, and from there on

pub marks-within : (bits place : ℕ) → place < 64 → marks bits place ≡ (bit_at bits (63 - place) == 1)
unfolding marks
marks-within bits place below = let within : nat_lt place 64 ≡ true = lt-ltb place 64 below in rw within

pub marks-beyond : (bits place : ℕ) → 64 ≤ place → marks bits place ≡ false
unfolding marks
marks-beyond bits place above = let beyond : nat_lt place 64 ≡ false = le-ltb place 64 above in rw beyond

pub with_mark-within : (bits place : ℕ) → place < 64 → with_mark bits place ≡ bit_or bits (2 ^ (63 - place))
unfolding with_mark
with_mark-within bits place below = let within : nat_lt place 64 ≡ true = lt-ltb place 64 below in rw within

pub with_mark-beyond : (bits place : ℕ) → 64 ≤ place → with_mark bits place ≡ bits
unfolding with_mark
with_mark-beyond bits place above = let beyond : nat_lt place 64 ≡ false = le-ltb place 64 above in rw beyond

-- ---- one bit is set

max-zero : (n : ℕ) → max n 0 ≡ n
max-zero n = omega arith

max-one : (n : ℕ) → n < 2 → max n 1 ≡ 1
max-one n low = omega arith

set-same : (bits i : ℕ) → bit_at (bit_or bits (2 ^ i)) i ≡ 1
set-same bits i =
    bit_at_or bits (2 ^ i) i ∙ ap (λ (n : ℕ). max (bit_at bits i) n) (bit_at-pow_same i) ∙ max-one (bit_at bits i) (bit_at-lt bits i)

set-other : (bits i j : ℕ) → (j ≡ i → ⊥) → bit_at (bit_or bits (2 ^ i)) j ≡ bit_at bits j
set-other bits i j other =
    bit_at_or bits (2 ^ i) j ∙ ap (λ (n : ℕ). max (bit_at bits j) n) (bit_at-pow_other i j other) ∙ max-zero (bit_at bits j)

-- the bit of a place, once that of another is set
marked-bit : (bits place other : ℕ) → place < 64 → bit_at (with_mark bits place) (63 - other) ≡ bit_at (bit_or bits (2 ^ (63 - place))) (63 - other)
marked-bit bits place other below = ap (λ (n : ℕ). bit_at n (63 - other)) (with_mark-within bits place below)

marks-set : (bits place other : ℕ) → place < 64 → other ≡ place → marks (with_mark bits place) other ≡ true
marks-set bits place other below same =
    let at : 63 - other ≡ 63 - place = omega arith in
    let set : bit_at (bit_or bits (2 ^ (63 - place))) (63 - other) ≡ 1 =
    ap (λ (i : ℕ). bit_at (bit_or bits (2 ^ (63 - place))) i) at ∙ set-same bits (63 - place) in
    marks-within (with_mark bits place) other (omega arith)
    ∙ eq-eqb (bit_at (with_mark bits place) (63 - other)) 1 (marked-bit bits place other below ∙ set)

marks-stays : (bits place other : ℕ) → place < 64 → other < 64 → (other ≡ place → ⊥) → marks (with_mark bits place) other ≡ marks bits other
marks-stays bits place other below within differ =
    let apart : 63 - other ≡ 63 - place → ⊥ = λ e. differ (omega arith) in
    let stays : bit_at (with_mark bits place) (63 - other) ≡ bit_at bits (63 - other) =
    marked-bit bits place other below ∙ set-other bits (63 - place) (63 - other) apart in
    marks-within (with_mark bits place) other within ∙ ap (λ (n : ℕ). n == 1) stays ∙ sym (marks-within bits other within)

-- the test of another place, or of the one that was set
or-set : (set marked : Bool) (left right : ℕ) → left ≡ right → set ≡ true → set ≡ ((left == right) || marked)
or-set set marked left right same is = is ∙ sym (ap (λ (b : Bool). b || marked) (eq-eqb left right same))

or-stays : (set marked : Bool) (left right : ℕ) → (left ≡ right → ⊥) → set ≡ marked → set ≡ ((left == right) || marked)
or-stays set marked left right differ is = is ∙ sym (ap (λ (b : Bool). b || marked) (ne_eqb left right differ))

pub marks-with_mark : (bits place other : ℕ) → place < 64 → marks (with_mark bits place) other ≡ ((other == place) || marks bits other)
marks-with_mark bits place other below =
    elim (cases_eq other place) [
      | inl same ↦ or-set (marks (with_mark bits place) other) (marks bits other) other place same (marks-set bits place other below same)
      | inr differ ↦ or-stays (marks (with_mark bits place) other) (marks bits other) other place differ (elim (cases_lt other 64) [
        | inl within ↦ marks-stays bits place other below within differ
        | inr above ↦ marks-beyond (with_mark bits place) other above ∙ sym (marks-beyond bits other above)
      ])
    ]

pub with_mark-lt : (bits place : ℕ) → bits < 2 ^ 64 → with_mark bits place < 2 ^ 64
with_mark-lt bits place fits =
    elim (cases_lt place 64) [
      | inl below ↦ subst (λ (n : ℕ). n < 2 ^ 64) (sym (with_mark-within bits place below))
          (or_lt 64 bits (2 ^ (63 - place)) fits (pow_below (63 - place) 64 (omega arith)))
      | inr above ↦ subst (λ (n : ℕ). n < 2 ^ 64) (sym (with_mark-beyond bits place above)) fits
    ]

pub marks-zero : (place : ℕ) → marks 0 place ≡ false
marks-zero place =
    elim (cases_lt place 64) [
      | inl below ↦ marks-within 0 place below ∙ ap (λ (n : ℕ). n == 1) (bit_at-zero (63 - place))
      | inr above ↦ marks-beyond 0 place above
    ]

-- ---- bits with the same places set

same-bit : (a b : ℕ) → a < 2 → b < 2 → (a == 1) ≡ (b == 1) → a ≡ b
same-bit a b low_a low_b same =
    elim (cases_eq b 1) [
      | inl one ↦ let also : a ≡ 1 = eqb-true a 1 (same ∙ eq-eqb b 1 one) in omega arith
      | inr other ↦ let also : a ≡ 1 → ⊥ = eqb-false a 1 (same ∙ ne_eqb b 1 other) in omega arith
    ]

pub same-marks : (a b : ℕ) → a < 2 ^ 64 → b < 2 ^ 64 → ((place : ℕ) → place < 64 → marks a place ≡ marks b place) → a ≡ b
same-marks a b fits_a fits_b same =
    same_from_bits_below 64 a b fits_a fits_b (λ i below.
    let place : 63 - i < 64 = omega arith in
    let at : 63 - (63 - i) ≡ i = omega arith in
    let tests : (bit_at a (63 - (63 - i)) == 1) ≡ (bit_at b (63 - (63 - i)) == 1) =
    sym (marks-within a (63 - i) place) ∙ same (63 - i) place ∙ marks-within b (63 - i) place in
    same-bit (bit_at a i) (bit_at b i) (bit_at-lt a i) (bit_at-lt b i)
    (subst (λ (k : ℕ). (bit_at a k == 1) ≡ (bit_at b k == 1)) at tests))
