-- Parsers consume the encoding of their value, and return the value of an encoding.
use Rattle.std.proofs.Common.{◌≡◌, ℕ, zero, suc, ◌^◌, ◌<◌, List, [], ◌∷◌, ◌++◌, length, Option, Some, refl, sym, ap, subst, ◌∙◌, append_assoc}
use Rattle.std.specs.List.{AllByRecursion, flat_map}
use Rattle.std.proofs.lemmas.List.Concat.{flat_map-cons}
use Rattle.byteorder.specs.Endian.{big_bytes}
use Rattle.rly_record.specs.HelpersReader.{◌>>=◌, Reader, ◌⊗◌, made_at, many_at, field_at, then_at}
use Rattle.rly_record.proofs.Fields.{IsBytes, bind_some, bind_is, some_is, Takes, Takes-then, IsWide, wide_0, wide_1, wide_2, wide_4, wide_5, wide_6, wide_7, wide_8, number_takes, number_again}

-- reading inverts writing, in both directions
pub record Reads {A : Type 0} (read : Reader A) (spell : A → List ℕ) (Fits : A → Type 0) : Type 0 where
  pub takes : (bytes : List ℕ) (a : A) (rest : List ℕ) → IsBytes bytes → read bytes ≡ Some (a, rest) → Takes bytes (spell a) rest × Fits a
  pub again : (a : A) (rest : List ℕ) → Fits a → read (spell a ++ rest) ≡ Some (a, rest)

pub number_reads : (width : ℕ) → IsWide width → Reads (field_at width) (big_bytes width) (λ n. n < 256 ^ width)
number_reads width wide = record {
  takes = λ bytes n rest fits e. number_takes width wide bytes n rest fits e;
  again = λ n rest lt. number_again width n rest lt;
}

-- a field of no bytes
pub none_reads : Reads (field_at 0) (big_bytes 0) (λ n. n < 256 ^ 0)
none_reads = number_reads 0 wide_0

pub u8_reads : Reads (field_at 1) (big_bytes 1) (λ n. n < 256 ^ 1)
u8_reads = number_reads 1 wide_1

pub u16_reads : Reads (field_at 2) (big_bytes 2) (λ n. n < 256 ^ 2)
u16_reads = number_reads 2 wide_2

pub u32_reads : Reads (field_at 4) (big_bytes 4) (λ n. n < 256 ^ 4)
u32_reads = number_reads 4 wide_4

pub u40_reads : Reads (field_at 5) (big_bytes 5) (λ n. n < 256 ^ 5)
u40_reads = number_reads 5 wide_5

pub u48_reads : Reads (field_at 6) (big_bytes 6) (λ n. n < 256 ^ 6)
u48_reads = number_reads 6 wide_6

pub u56_reads : Reads (field_at 7) (big_bytes 7) (λ n. n < 256 ^ 7)
u56_reads = number_reads 7 wide_7

pub u64_reads : Reads (field_at 8) (big_bytes 8) (λ n. n < 256 ^ 8)
u64_reads = number_reads 8 wide_8

-- a value and, after it, another that depends on it
pub then_reads : {A B : Type 0} {one : Reader A} {s : A → List ℕ} {F : A → Type 0} (other : A → Reader B) (t : B → List ℕ) (G : A → B → Type 0)
    → Reads one s F → ((a : A) → Reads (other a) t (G a)) → Reads (then_at one other) (λ (p : A × B). s p.0 ++ t p.1) (λ (p : A × B). F p.0 × G p.0 p.1)
then_reads {A} {B} {one} {s} {F} other t G p q = record {
  takes = λ bytes ab rest fits e.
      let x = bind_some (one bytes) (λ (a : A × List ℕ). other a.0 a.1 >>= λ b. Some ((a.0, b.0), b.1)) (ab, rest) e in
      let y = bind_some (other x.0.0 x.0.1) (λ (b : B × List ℕ). Some ((x.0.0, b.0), b.1)) (ab, rest) x.2 in
      let first = p.takes bytes x.0.0 x.0.1 fits x.1 in
      let second = (q x.0.0).takes x.0.1 y.0.0 y.0.1 first.0.rest_fits y.1 in
      subst (λ (z : (A × B) × List ℕ). Takes bytes (s z.0.0 ++ t z.0.1) z.1 × (F z.0.0 × G z.0.0 z.0.1)) (some_is ((x.0.0, y.0.0), y.0.1) (ab, rest) y.2)
      (Takes-then bytes (s x.0.0) x.0.1 (t y.0.0) y.0.1 first.0 second.0, (first.1, second.1));
  again = λ ab rest fits.
      let tail : List ℕ = t ab.1 ++ rest in
      ap (then_at one other) (append_assoc (s ab.0) (t ab.1) rest)
      ∙ bind_is (one (s ab.0 ++ tail)) (ab.0, tail) (λ (a : A × List ℕ). other a.0 a.1 >>= λ b. Some ((a.0, b.0), b.1)) (Some (ab, rest)) (p.again ab.0 tail fits.0)
      (bind_is (other ab.0 tail) (ab.1, rest) (λ (b : B × List ℕ). Some ((ab.0, b.0), b.1)) (Some (ab, rest)) ((q ab.0).again ab.1 rest fits.1) refl);
}

-- a value and, after it, another
pub pair_reads : {A B : Type 0} {one : Reader A} {s : A → List ℕ} {F : A → Type 0} {other : Reader B} {t : B → List ℕ} {G : B → Type 0}
    → Reads one s F → Reads other t G → Reads (one ⊗ other) (λ (p : A × B). s p.0 ++ t p.1) (λ (p : A × B). F p.0 × G p.1)
pair_reads {other = other} {t = t} {G = G} p q = then_reads (λ _. other) t (λ _. G) p (λ _. q)

-- the image of a value, with an encoding of its own
pub made_reads : {A B : Type 0} {one : Reader A} {s : A → List ℕ} {F : A → Type 0} (made : A → B) (parts : B → A) (t : B → List ℕ) (G : B → Type 0)
    → Reads one s F → ((a : A) → F a → s a ≡ t (made a)) → ((a : A) → F a → G (made a)) → ((b : B) → G b → F (parts b) × (made (parts b) ≡ b)) → Reads (made_at made one) t G
made_reads {A} {B} {one} {s} {F} made parts t G p same there back = record {
  takes = λ bytes b rest fits e.
      let x = bind_some (one bytes) (λ (a : A × List ℕ). Some (made a.0, a.1)) (b, rest) e in
      let first = p.takes bytes x.0.0 x.0.1 fits x.1 in
      subst (λ (z : B × List ℕ). Takes bytes (t z.0) z.1 × G z.0) (some_is (made x.0.0, x.0.1) (b, rest) x.2)
      (subst (λ (text : List ℕ). Takes bytes text x.0.1) (same x.0.0 first.1) first.0, there x.0.0 first.1);
  again = λ b rest fits.
      let x = back b fits in
      let text : t b ≡ s (parts b) = sym (same (parts b) x.0 ∙ ap t x.1) in
      ap (λ (l : List ℕ). made_at made one (l ++ rest)) text
      ∙ bind_is (one (s (parts b) ++ rest)) (parts b, rest) (λ (a : A × List ℕ). Some (made a.0, a.1)) (Some (b, rest)) (p.again (parts b) rest x.0) (ap (λ (v : B). Some (v, rest)) x.1);
}

-- ---- many values

-- a number of values that fit
pub record Fit {A : Type 0} (F : A → Type 0) (n : ℕ) (xs : List A) : Type 0 where
  pub count : length xs ≡ n
  pub each : AllByRecursion F xs

many_take : {A : Type 0} (one : Reader A) (s : A → List ℕ) (F : A → Type 0) → Reads one s F
    → (n : ℕ) (bytes : List ℕ) (xs : List A) (rest : List ℕ) → IsBytes bytes → many_at one n bytes ≡ Some (xs, rest) → Takes bytes (flat_map s xs) rest × Fit F n xs
unfolding many_at
many_take {A} one s F p zero bytes xs rest fits e =
    subst (λ (y : List A × List ℕ). Takes bytes (flat_map s y.0) y.1 × Fit F 0 y.0) (some_is ([], bytes) (xs, rest) e) (record { parts = refl; rest_fits = fits }, record { count = refl; each = tt })
many_take {A} one s F p (suc n) bytes xs rest fits e =
    let a = bind_some (one bytes) (λ (first : A × List ℕ). many_at one n first.1 >>= λ others. Some (first.0 ∷ others.0, others.1)) (xs, rest) e in
    let b = bind_some (many_at one n a.0.1) (λ (others : List A × List ℕ). Some (a.0.0 ∷ others.0, others.1)) (xs, rest) a.2 in
    let first = p.takes bytes a.0.0 a.0.1 fits a.1 in
    let second = many_take one s F p n a.0.1 b.0.0 b.0.1 first.0.rest_fits b.1 in
    let both = Takes-then bytes (s a.0.0) a.0.1 (flat_map s b.0.0) b.0.1 first.0 second.0 in
    let made : List A × List ℕ = (a.0.0 ∷ b.0.0, b.0.1) in
    subst (λ (y : List A × List ℕ). Takes bytes (flat_map s y.0) y.1 × Fit F (suc n) y.0) (some_is made (xs, rest) b.2)
    (rw flat_map-cons both, record { count = ap suc second.1.count; each = (first.1, second.1.each) })

many_again : {A : Type 0} (one : Reader A) (s : A → List ℕ) (F : A → Type 0) → Reads one s F
    → (xs : List A) (rest : List ℕ) → AllByRecursion F xs → many_at one (length xs) (flat_map s xs ++ rest) ≡ Some (xs, rest)
unfolding many_at
many_again one s F p [] rest fits = refl
many_again {A} one s F p (x ∷ xs) rest fits =
    let tail : List ℕ = flat_map s xs ++ rest in
    let z : Option (List A × List ℕ) = Some (x ∷ xs, rest) in
    let regrouped : flat_map s (x ∷ xs) ++ rest ≡ s x ++ tail = ap (λ (t : List ℕ). t ++ rest) (flat_map-cons s x xs) ∙ append_assoc (s x) (flat_map s xs) rest in
    ap (many_at one (suc (length xs))) regrouped
    ∙ bind_is (one (s x ++ tail)) (x, tail) (λ (first : A × List ℕ). many_at one (length xs) first.1 >>= λ others. Some (first.0 ∷ others.0, others.1)) z (p.again x tail fits.0)
    (bind_is (many_at one (length xs) tail) (xs, rest) (λ (others : List A × List ℕ). Some (x ∷ others.0, others.1)) z (many_again one s F p xs rest fits.1) refl)

pub many_reads : {A : Type 0} {one : Reader A} {s : A → List ℕ} {F : A → Type 0} (n : ℕ) → Reads one s F → Reads (many_at one n) (flat_map s) (Fit F n)
many_reads {one = one} {s = s} {F = F} n p = record {
  takes = λ bytes xs rest fits e. many_take one s F p n bytes xs rest fits e;
  again = λ xs rest fits. ap (λ (k : ℕ). many_at one k (flat_map s xs ++ rest)) (sym fits.count) ∙ many_again one s F p xs rest fits.each;
}
