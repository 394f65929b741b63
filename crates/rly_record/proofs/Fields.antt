-- Reading inverts writing for fields, in both directions.
use Rattle.std.proofs.Common.{◌≡◌, ℕ, zero, suc, ◌+◌, ◌^◌, ◌<◌, ◌≤◌, Bool, true, false, cond, ◌||◌, ltb, List, ◌∷◌, ◌++◌, ◌⊎◌, length, get_or, take, drop, Option, Some, None, refl, sym, ap, subst, ◌∙◌, append_assoc, arith, inl, inr}
use Rattle.std.proofs.lemmas.Bool.{cases_lt, ltb-false, le-ltb, or_parts, or_from}
use Rattle.std.proofs.lemmas.List.{take_at, drop_at, take-append-drop, length-append, length-take, get_or-drop, get_or-take, get_or_past}
use Rattle.std.proofs.lemmas.Nat.{be_bytes_2, be_bytes_4, be_bytes_8}
use Rattle.byteorder.specs.Endian.{big_bytes, big_number}
use Rattle.byteorder.specs.Numbers.{big_from-cons, big_from-lt, big_number-reads_back, length-bytes_high_first}
use Rattle.rly_record.specs.HelpersReader.{◌>>=◌, field_at, payload_at}

-- each item is a byte
abbrev pub IsBytes : List ℕ → Type 0
IsBytes bytes = (i : ℕ) → get_or bytes i 0 < 256

pub IsBytes-rest : (b : ℕ) (bytes : List ℕ) → IsBytes (b ∷ bytes) → IsBytes bytes
IsBytes-rest b bytes fits i = fits (suc i)

IsBytes-drop : (n : ℕ) (bytes : List ℕ) → IsBytes bytes → IsBytes (drop n bytes)
IsBytes-drop n bytes fits i = rw get_or-drop (fits (n + i))

IsBytes-take : (n : ℕ) (bytes : List ℕ) → IsBytes bytes → IsBytes (take n bytes)
IsBytes-take n bytes fits i =
    elim (cases_lt i n) [
      | inl lt ↦ rw (get_or-take n bytes i 0 lt) (fits i)
      | inr le ↦ rw (get_or_past (take n bytes) i 0 (omega (arith, length-take n bytes))) (omega arith)
    ]

-- ---- steps

-- the value of a step that was followed by another
pub bind_some : {A B : Type 0} (r : Option A) (f : A → Option B) (y : B) → (r >>= f) ≡ Some y → (x : A) × (r ≡ Some x) × (f x ≡ Some y)
bind_some (Some x) f y e = (x, refl, e)
bind_some None f y e = absurd cc

-- a step with a value, and the step after it
pub bind_is : {A B : Type 0} (r : Option A) (x : A) (f : A → Option B) (z : Option B) → r ≡ Some x → f x ≡ z → (r >>= f) ≡ z
bind_is r x f z found next = rw found next

-- a test that lets a step have a value
pub guard_some : {A : Type 0} (b : Bool) (x y : A) → cond b None (Some x) ≡ Some y → (b ≡ false) × (x ≡ y)
guard_some true x y e = absurd cc
guard_some false x y e = (refl, cc)

-- the result of a test
pub chosen : {A : Type 0} (b : Bool) (x y z : A) → cond b x y ≡ z → ((b ≡ true) × (x ≡ z)) ⊎ ((b ≡ false) × (y ≡ z))
chosen true x y z e = inl (refl, e)
chosen false x y z e = inr (refl, e)

pub some_is : {A : Type 0} (x y : A) → Some x ≡ Some y → x ≡ y
some_is x y e = cc

-- the bytes that a parser took from the front
pub record Takes (bytes text rest : List ℕ) : Type 0 where
  pub parts : bytes ≡ text ++ rest
  pub rest_fits : IsBytes rest

pub Takes-then : (a x b y c : List ℕ) → Takes a x b → Takes b y c → Takes a (x ++ y) c
Takes-then a x b y c p q = record { parts = p.parts ∙ ap (λ (t : List ℕ). x ++ t) q.parts ∙ sym (append_assoc x y c); rest_fits = q.rest_fits }

-- ---- numbers

-- an item of a front
item : (width k : ℕ) (bytes : List ℕ) → k < width → get_or (take width bytes) k 0 ≡ get_or bytes k 0
item width k bytes lt = get_or-take width bytes k 0 lt

-- a number of a width is encoded by the same bytes
abbrev pub IsWide : ℕ → Type 0
IsWide width = (bytes : List ℕ) → IsBytes bytes → width ≤ length bytes → big_bytes width (big_number width bytes) ≡ take width bytes

pub wide_2 : IsWide 2
wide_2 bytes fits long =
    be_bytes_2 (take 2 bytes) (big_number 2 bytes) (omega (arith, length-take 2 bytes)) (IsBytes-take 2 bytes fits)
    (omega (arith, item 2 0 bytes (omega arith), item 2 1 bytes (omega arith)))

pub wide_4 : IsWide 4
wide_4 bytes fits long =
    be_bytes_4 (take 4 bytes) (big_number 4 bytes) (omega (arith, length-take 4 bytes)) (IsBytes-take 4 bytes fits)
    (omega (arith, item 4 0 bytes (omega arith), item 4 1 bytes (omega arith), item 4 2 bytes (omega arith), item 4 3 bytes (omega arith)))

pub wide_8 : IsWide 8
wide_8 bytes fits long =
    be_bytes_8 (take 8 bytes) (big_number 8 bytes) (omega (arith, length-take 8 bytes)) (IsBytes-take 8 bytes fits)
    (omega (arith, item 8 0 bytes (omega arith), item 8 1 bytes (omega arith), item 8 2 bytes (omega arith), item 8 3 bytes (omega arith), item 8 4 bytes (omega arith), item 8 5 bytes (omega arith), item 8 6 bytes (omega arith), item 8 7 bytes (omega arith)))

-- a byte 0 at the front
IsBytes-zero : (bytes : List ℕ) → IsBytes bytes → IsBytes (0 ∷ bytes)
IsBytes-zero bytes fits zero = omega arith
IsBytes-zero bytes fits (suc i) = fits i

-- a number is encoded like one of a byte more whose first byte is 0
wide_below : (width : ℕ) → IsWide (suc width) → IsWide width
wide_below width wide bytes fits long =
    let moved = big_from-cons 0 width 0 bytes in
    let same : big_number (suc width) (0 ∷ bytes) ≡ big_number width bytes = omega (arith, moved) in
    ap (big_bytes width) (sym same) ∙ ap (drop 1) (wide (0 ∷ bytes) (IsBytes-zero bytes fits) (omega (arith, long)))

pub wide_7 : IsWide 7
wide_7 = wide_below 7 wide_8

pub wide_6 : IsWide 6
wide_6 = wide_below 6 wide_7

pub wide_5 : IsWide 5
wide_5 = wide_below 5 wide_6

pub wide_1 : IsWide 1
wide_1 = wide_below 1 wide_2

-- a field of no bytes, which reads as 0
pub wide_0 : IsWide 0
wide_0 bytes fits long = refl

pub number_takes : (width : ℕ) → IsWide width → (bytes : List ℕ) (n : ℕ) (rest : List ℕ) → IsBytes bytes → field_at width bytes ≡ Some (n, rest) → Takes bytes (big_bytes width n) rest × (n < 256 ^ width)
number_takes width wide bytes n rest fits e =
    let g = guard_some (ltb (length bytes) width) (big_number width bytes, drop width bytes) (n, rest) e in
    let long : width ≤ length bytes = ltb-false _ _ g.0 in
    let n-is : big_number width bytes ≡ n = ap (λ (p : ℕ × List ℕ). p.0) g.1 in
    let rest-is : drop width bytes ≡ rest = ap (λ (p : ℕ × List ℕ). p.1) g.1 in
    let front : big_bytes width n ≡ take width bytes = ap (big_bytes width) (sym n-is) ∙ wide bytes fits long in
    let whole : bytes ≡ take width bytes ++ drop width bytes = sym (take-append-drop width bytes) in
    let parts : bytes ≡ big_bytes width n ++ rest = whole ∙ ap (λ (t : List ℕ). t ++ drop width bytes) (sym front) ∙ ap (λ (t : List ℕ). big_bytes width n ++ t) rest-is in
    let rest-fits : IsBytes rest = subst IsBytes rest-is (IsBytes-drop width bytes fits) in
    let below : n < 256 ^ width = subst (λ (k : ℕ). k < 256 ^ width) n-is (big_from-lt 0 width bytes fits) in
    (record { parts = parts; rest_fits = rest-fits }, below)

pub number_again : (width n : ℕ) (rest : List ℕ) → n < 256 ^ width → field_at width (big_bytes width n ++ rest) ≡ Some (n, rest)
number_again width n rest lt =
    let size : length (big_bytes width n) ≡ width = length-bytes_high_first width n in
    let long : ltb (length (big_bytes width n ++ rest)) width ≡ false = le-ltb _ _ (omega (arith, length-append (big_bytes width n) rest)) in
    rw (long, big_number-reads_back width n rest lt, drop_at (big_bytes width n) rest width size) refl

-- ---- payloads

pub payload_takes : (bytes payload rest : List ℕ) → IsBytes bytes → payload_at bytes ≡ Some (payload, rest) → Takes bytes (big_bytes 2 (length payload) ++ payload) rest × (length payload ≤ 8192)
unfolding payload_at
payload_takes bytes payload rest fits e =
    let b = bind_some (field_at 2 bytes) (λ (size : ℕ × List ℕ). cond (ltb 8192 size.0 || ltb (length size.1) size.0) None (Some (take size.0 size.1, drop size.0 size.1))) (payload, rest) e in
    let n = b.0 in
    let t = number_takes 2 wide_2 bytes n.0 n.1 fits b.1 in
    let g = guard_some (ltb 8192 n.0 || ltb (length n.1) n.0) (take n.0 n.1, drop n.0 n.1) (payload, rest) b.2 in
    let tests = or_parts (ltb 8192 n.0) (ltb (length n.1) n.0) g.0 in
    let short : n.0 ≤ 8192 = ltb-false _ _ tests.0 in
    let long : n.0 ≤ length n.1 = ltb-false _ _ tests.1 in
    let len : length (take n.0 n.1) ≡ n.0 = omega (arith, length-take n.0 n.1) in
    let second : Takes n.1 (take n.0 n.1) (drop n.0 n.1) = record { parts = sym (take-append-drop n.0 n.1); rest_fits = IsBytes-drop n.0 n.1 t.0.rest_fits } in
    let both = Takes-then bytes (big_bytes 2 n.0) n.1 (take n.0 n.1) (drop n.0 n.1) t.0 second in
    let whole : Takes bytes (big_bytes 2 (length (take n.0 n.1)) ++ take n.0 n.1) (drop n.0 n.1) = subst (λ (k : ℕ). Takes bytes (big_bytes 2 k ++ take n.0 n.1) (drop n.0 n.1)) (sym len) both in
    subst (λ (p : List ℕ × List ℕ). Takes bytes (big_bytes 2 (length p.0) ++ p.0) p.1 × (length p.0 ≤ 8192)) g.1 (whole, omega arith)

pub payload_again : (payload rest : List ℕ) → length payload ≤ 8192 → payload_at (big_bytes 2 (length payload) ++ (payload ++ rest)) ≡ Some (payload, rest)
unfolding payload_at
payload_again payload rest short =
    let size : ℕ = length payload in
    let tail : List ℕ = payload ++ rest in
    let tests : (ltb 8192 size || ltb (length tail) size) ≡ false = or_from _ _ (le-ltb _ _ short) (le-ltb _ _ (omega (arith, length-append payload rest))) in
    let below : size < 256 ^ 2 = omega arith in
    let cut : (let p : List ℕ × List ℕ = (take size tail, drop size tail) in p) ≡ (payload, rest) = rw (take_at payload rest size refl, drop_at payload rest size refl) refl in
    bind_is (field_at 2 (big_bytes 2 size ++ tail)) (size, tail) (λ (n : ℕ × List ℕ). cond (ltb 8192 n.0 || ltb (length n.1) n.0) None (Some (take n.0 n.1, drop n.0 n.1))) (Some (payload, rest))
    (number_again 2 size tail below) (rw tests (ap (λ (p : List ℕ × List ℕ). Some p) cut))
