-- The fields of a datagram: their bytes at an offset, and the facts that follow from the tests of them.
use Rattle.std.proofs.Common.{◌≡◌, ℕ, zero, suc, ◌+◌, ◌<◌, ◌≤◌, Bool, true, false, not, ◌||◌, ◌==◌, nat_lt, slice_index, List, [], ◌∷◌, ◌++◌, ◌⊎◌, length, get_or, take, drop, Option, Some, None, Ok, refl, sym, ap, ◌∙◌, append_assoc, arith, inl, inr}
use Rattle.std.proofs.lemmas.Bool.{cases_lt, eqb-true, ltb-false, not-false, or_cases, or_parts}
use Rattle.std.proofs.lemmas.List.{take-append-drop, drop-drop, length-take, length-drop, get_or-drop, get_or-take, get_or_past}
use Rattle.std.proofs.lemmas.Nat.{be_bytes_2, be_bytes_8}
use Rattle.byteorder.specs.Endian.{big_bytes, big_number}
use Rattle.byteorder.specs.Numbers.{big_from-cons}
use Rattle.rly_core.specs.declared.refusal.Refusal.{Refusal}
use Rattle.rly_hop.specs.Rows.{first_row}
use Rattle.rly_hop.specs.MessageReads.{field_at, found_unless, is_known_kind}

-- each item is a byte
abbrev pub IsBytes : List ℕ → Type 0
IsBytes bytes = (i : ℕ) → get_or bytes i 0 < 256

pub IsBytes-drop : (n : ℕ) (bytes : List ℕ) → IsBytes bytes → IsBytes (drop n bytes)
IsBytes-drop n bytes fits i = rw get_or-drop (fits (n + i))

IsBytes-take : (n : ℕ) (bytes : List ℕ) → IsBytes bytes → IsBytes (take n bytes)
IsBytes-take n bytes fits i =
    elim (cases_lt i n) [
      | inl lt ↦ rw (get_or-take n bytes i 0 lt) (fits i)
      | inr le ↦ rw (get_or_past (take n bytes) i 0 (omega (arith, length-take n bytes))) (omega arith)
    ]

-- a field's bytes
abbrev pub field : ℕ → ℕ → List ℕ → List ℕ
field width place bytes = take width (drop place bytes)

-- an item of a front
item : (width k : ℕ) (bytes : List ℕ) → k < width → get_or (take width bytes) k 0 ≡ get_or bytes k 0
item width k bytes lt = get_or-take width bytes k 0 lt

-- a number of this width is encoded again as it was
abbrev pub IsWide : ℕ → Type 0
IsWide width = (bytes : List ℕ) → IsBytes bytes → width ≤ length bytes → big_bytes width (big_number width bytes) ≡ take width bytes

wide_2 : IsWide 2
wide_2 bytes fits long =
    be_bytes_2 (take 2 bytes) (big_number 2 bytes) (omega (arith, length-take 2 bytes)) (IsBytes-take 2 bytes fits)
    (omega (arith, item 2 0 bytes (omega arith), item 2 1 bytes (omega arith)))

wide_8 : IsWide 8
wide_8 bytes fits long =
    be_bytes_8 (take 8 bytes) (big_number 8 bytes) (omega (arith, length-take 8 bytes)) (IsBytes-take 8 bytes fits)
    (omega (arith, item 8 0 bytes (omega arith), item 8 1 bytes (omega arith), item 8 2 bytes (omega arith), item 8 3 bytes (omega arith), item 8 4 bytes (omega arith), item 8 5 bytes (omega arith), item 8 6 bytes (omega arith), item 8 7 bytes (omega arith)))

-- a byte 0 in front
IsBytes-zero : (bytes : List ℕ) → IsBytes bytes → IsBytes (0 ∷ bytes)
IsBytes-zero bytes fits zero = omega arith
IsBytes-zero bytes fits (suc i) = fits i

-- a number is encoded as one of a byte more that begins with a byte 0
wide_below : (width : ℕ) → IsWide (suc width) → IsWide width
wide_below width wide bytes fits long =
    let moved = big_from-cons 0 width 0 bytes in
    let same : big_number (suc width) (0 ∷ bytes) ≡ big_number width bytes = omega (arith, moved) in
    ap (big_bytes width) (sym same) ∙ ap (drop 1) (wide (0 ∷ bytes) (IsBytes-zero bytes fits) (omega (arith, long)))

wide_5 : IsWide 5
wide_5 = wide_below 5 (wide_below 6 (wide_below 7 wide_8))

-- a field's number, encoded again
field-again : (width place : ℕ) (bytes : List ℕ) → IsWide width → IsBytes bytes → place + width ≤ length bytes → big_bytes width (field_at width place bytes) ≡ field width place bytes
field-again width place bytes wide fits long = wide (drop place bytes) (IsBytes-drop place bytes fits) (omega (arith, length-drop place bytes))

pub field_2 : (place : ℕ) (bytes : List ℕ) → IsBytes bytes → place + 2 ≤ length bytes → big_bytes 2 (field_at 2 place bytes) ≡ field 2 place bytes
field_2 place bytes fits long = field-again 2 place bytes wide_2 fits long

pub field_5 : (place : ℕ) (bytes : List ℕ) → IsBytes bytes → place + 5 ≤ length bytes → big_bytes 5 (field_at 5 place bytes) ≡ field 5 place bytes
field_5 place bytes fits long = field-again 5 place bytes wide_5 fits long

pub field_8 : (place : ℕ) (bytes : List ℕ) → IsBytes bytes → place + 8 ≤ length bytes → big_bytes 8 (field_at 8 place bytes) ≡ field 8 place bytes
field_8 place bytes fits long = field-again 8 place bytes wide_8 fits long

-- a field and the bytes after it
pub field-append : (width place behind : ℕ) (bytes : List ℕ) → behind ≡ place + width → field width place bytes ++ drop behind bytes ≡ drop place bytes
field-append width place behind bytes e = rw (e, ← drop-drop) (take-append-drop width (drop place bytes))

-- the front of a message: the protocol's two bytes, the version and the kind
pub front : (bytes : List ℕ) (kind : ℕ) → IsBytes bytes → 8 ≤ length bytes → field_at 2 0 bytes ≡ 0x524c → slice_index bytes 2 ≡ 1 → slice_index bytes 3 ≡ kind → 0x52 ∷ 0x4c ∷ 1 ∷ kind ∷ [] ≡ take 4 bytes
front [] kind fits long magic version is = absurd (omega arith)
front (a ∷ []) kind fits long magic version is = absurd (omega arith)
front (a ∷ b ∷ []) kind fits long magic version is = absurd (omega arith)
front (a ∷ b ∷ c ∷ []) kind fits long magic version is = absurd (omega arith)
front (a ∷ b ∷ c ∷ d ∷ bytes) kind fits long magic version is =
    let first : a ≡ 0x52 = omega (arith, fits 0, fits 1) in
    let second : b ≡ 0x4c = omega (arith, fits 0, fits 1) in
    rw (first, second, version, is) refl

-- consecutive parts
pub joined_3 : (a b c d r r8 r6 r4 bytes : List ℕ) → d ++ r ≡ r8 → c ++ r8 ≡ r6 → b ++ r6 ≡ r4 → a ++ r4 ≡ bytes → ((a ++ b) ++ c) ++ d ++ r ≡ bytes
joined_3 a b c d r r8 r6 r4 bytes e8 e6 e4 e0 = simp append_assoc (rw (e8, e6, e4) e0)

-- the tests of the ten rows of faults, none of which is met
pub record NoFault (a b c d e f g h i j : Bool) : Type 0 where
  pub header : a ≡ false
  pub magic : b ≡ false
  pub version : c ≡ false
  pub kind : d ≡ false
  pub station : e ≡ false
  pub fixed : f ≡ false
  pub limit : g ≡ false
  pub payload : h ≡ false
  pub short : i ≡ false
  pub long : j ≡ false

pub no_fault : (a b c d e f g h i j : Bool) (x1 x2 x3 x4 x5 x6 x7 x8 x9 x10 : Refusal)
    → first_row ((a, Some x1) ∷ (b, Some x2) ∷ (c, Some x3) ∷ (d, Some x4) ∷ (e, Some x5) ∷ (f, Some x6) ∷ (g, Some x7) ∷ (h, Some x8) ∷ (i, Some x9) ∷ (j, Some x10) ∷ []) None ≡ None
    → NoFault a b c d e f g h i j
no_fault true b c d e f g h i j x1 x2 x3 x4 x5 x6 x7 x8 x9 x10 none = absurd cc
no_fault false true c d e f g h i j x1 x2 x3 x4 x5 x6 x7 x8 x9 x10 none = absurd cc
no_fault false false true d e f g h i j x1 x2 x3 x4 x5 x6 x7 x8 x9 x10 none = absurd cc
no_fault false false false true e f g h i j x1 x2 x3 x4 x5 x6 x7 x8 x9 x10 none = absurd cc
no_fault false false false false true f g h i j x1 x2 x3 x4 x5 x6 x7 x8 x9 x10 none = absurd cc
no_fault false false false false false true g h i j x1 x2 x3 x4 x5 x6 x7 x8 x9 x10 none = absurd cc
no_fault false false false false false false true h i j x1 x2 x3 x4 x5 x6 x7 x8 x9 x10 none = absurd cc
no_fault false false false false false false false true i j x1 x2 x3 x4 x5 x6 x7 x8 x9 x10 none = absurd cc
no_fault false false false false false false false false true j x1 x2 x3 x4 x5 x6 x7 x8 x9 x10 none = absurd cc
no_fault false false false false false false false false false true x1 x2 x3 x4 x5 x6 x7 x8 x9 x10 none = absurd cc
no_fault false false false false false false false false false false x1 x2 x3 x4 x5 x6 x7 x8 x9 x10 none =
    record { header = refl; magic = refl; version = refl; kind = refl; station = refl; fixed = refl; limit = refl; payload = refl; short = refl; long = refl }

pub quiet : (a b c d e f g h i j : Bool) (x1 x2 x3 x4 x5 x6 x7 x8 x9 x10 : Refusal)
    → NoFault a b c d e f g h i j
    → first_row ((a, Some x1) ∷ (b, Some x2) ∷ (c, Some x3) ∷ (d, Some x4) ∷ (e, Some x5) ∷ (f, Some x6) ∷ (g, Some x7) ∷ (h, Some x8) ∷ (i, Some x9) ∷ (j, Some x10) ∷ []) None ≡ None
quiet a b c d e f g h i j x1 x2 x3 x4 x5 x6 x7 x8 x9 x10 none =
    rw (none.header, none.magic, none.version, none.kind, none.station, none.fixed, none.limit, none.payload, none.short, none.long) refl

pub ok-is : {A : Type 0} (x y : A) → found_unless None x ≡ found_unless None y → x ≡ y
ok-is x y e = cc

pub unless-is : {A : Type 0} (fault : Option Refusal) (x y : A) → fault ≡ None → x ≡ y → found_unless fault x ≡ Ok y
unless-is fault x y e same = rw (e, same) refl

pub unless-ok : {A : Type 0} (fault : Option Refusal) (x y : A) → found_unless fault x ≡ Ok y → (fault ≡ None) × (x ≡ y)
unless-ok None x y e = (refl, cc)
unless-ok (Some fault) x y e = absurd cc

-- the facts that follow from the tests of a datagram's header
pub record IsHeader (bytes : List ℕ) : Type 0 where
  pub length_is : 8 ≤ length bytes
  pub magic : field_at 2 0 bytes ≡ 0x524c
  pub version : slice_index bytes 2 ≡ 1
  pub from : 1 ≤ field_at 2 4 bytes
  pub to : 1 ≤ field_at 2 6 bytes

-- the kind is one of the five
pub known_kind : (kind : ℕ) → not (is_known_kind kind) ≡ false → (kind ≡ 1) ⊎ ((kind ≡ 2) ⊎ ((kind ≡ 3) ⊎ ((kind ≡ 4) ⊎ (kind ≡ 5))))
known_kind kind e =
    elim (or_cases _ _ (not-false _ e)) [
      | inl first ↦ elim (or_cases _ _ first) [
        | inl below ↦ elim (or_cases _ _ below) [
          | inl low ↦ elim (or_cases _ _ low) [ inl one ↦ inl (eqb-true _ _ one) | inr two ↦ inr (inl (eqb-true _ _ two)) ]
          | inr three ↦ inr (inr (inl (eqb-true _ _ three)))
        ]
        | inr four ↦ inr (inr (inr (inl (eqb-true _ _ four))))
      ]
      | inr five ↦ inr (inr (inr (inr (eqb-true _ _ five))))
    ]

-- a number that isn't 0
pub positive : (n : ℕ) → (n == 0) ≡ false → 1 ≤ n
positive zero e = absurd cc
positive (suc n) e = omega arith

pub IsHeader-from : (bytes : List ℕ) → nat_lt (length bytes) 8 ≡ false → not (field_at 2 0 bytes == 0x524c) ≡ false → not (slice_index bytes 2 == 1) ≡ false → ((field_at 2 4 bytes == 0) || (field_at 2 6 bytes == 0)) ≡ false → IsHeader bytes
IsHeader-from bytes long magic version station =
    let parts = or_parts (field_at 2 4 bytes == 0) (field_at 2 6 bytes == 0) station in
    record {
      length_is = ltb-false _ _ long;
      magic = eqb-true _ _ (not-false _ magic);
      version = eqb-true _ _ (not-false _ version);
      from = positive (field_at 2 4 bytes) parts.0;
      to = positive (field_at 2 6 bytes) parts.1;
    }
