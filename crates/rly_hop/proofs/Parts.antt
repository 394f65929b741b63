-- A slice of which two parts were written, the second right after the first.
use Rattle.std.proofs.Common.{◌≡◌, ℕ, ◌+◌, ◌-◌, ◌≤◌, List, ◌++◌, length, take, drop, refl, sym, ap, ◌∙◌, append_assoc, arith, length-append}
use Rattle.std.proofs.lemmas.List.{append-nil, drop-drop, drop_all, drop_at, length-drop, length-take, take_all, take_at}
use borrow.Rule.Slice.PartMut.{put_mid}

-- all after an offset is written
put_mid-end : (xs new : List ℕ) (at count : ℕ) → length xs ≤ at + count → put_mid at count xs new ≡ take at xs ++ new
put_mid-end xs new at count all =
    let none = drop_all count (drop at xs) (omega (arith, length-drop at xs)) in
    rw (none, append-nil) refl

-- a part is written right after a front
put_mid-behind : (front rest new : List ℕ) (at count : ℕ) → length front ≡ at → put_mid at count (front ++ rest) new ≡ front ++ (new ++ drop count rest)
put_mid-behind front rest new at count long = rw (take_at front rest at long, drop_at front rest at long) refl

-- a part is written at the front of all after an offset
pub put_mid-front : (xs part rest : List ℕ) (at width : ℕ) → at ≤ length xs → rest ≡ part ++ drop width (take (length xs - at) (drop at xs))
    → put_mid at (length xs - at) xs rest ≡ (take at xs ++ part) ++ drop (at + width) xs
put_mid-front xs part rest at width long is =
    let all : take (length xs - at) (drop at xs) ≡ drop at xs = take_all (length xs - at) (drop at xs) (omega (arith, length-drop at xs)) in
    put_mid-end xs rest at (length xs - at) (omega arith)
    ∙ ap (λ (x : List ℕ). take at xs ++ x) (is ∙ ap (λ (x : List ℕ). part ++ x) (ap (drop width) all ∙ drop-drop width at xs))
    ∙ simp append_assoc

pub put_mid-twice : (xs two new rest : List ℕ) (at size count : ℕ) → at + 2 + size ≤ length xs → count ≡ size → length two ≡ 2 → rest ≡ two ++ drop 2 (take (length xs - at) (drop at xs))
    → put_mid (at + 2) count (put_mid at (length xs - at) xs rest) new ≡ (take at xs ++ two) ++ new ++ drop (at + 2 + size) xs
put_mid-twice xs two new rest at size count long same width is =
    let inner : put_mid at (length xs - at) xs rest ≡ (take at xs ++ two) ++ drop (at + 2) xs = put_mid-front xs two rest at 2 (omega arith) is in
    let front : length (take at xs ++ two) ≡ at + 2 = omega (arith, length-append (take at xs) two, length-take at xs) in
    ap (λ (x : List ℕ). put_mid (at + 2) count x new) inner
    ∙ put_mid-behind (take at xs ++ two) (drop (at + 2) xs) new (at + 2) count front
    ∙ ap (λ (x : List ℕ). (take at xs ++ two) ++ (new ++ x)) (ap (λ (n : ℕ). drop n (drop (at + 2) xs)) same ∙ drop-drop size (at + 2) xs)
    ∙ simp append_assoc

-- a front was written, then five bytes after it, then two and a payload after these
pub limited-written : (front five two payload out a b c : List ℕ) → length front ≡ 16 → length five ≡ 5 → a ≡ front ++ drop 16 out → b ≡ take 16 a ++ five ++ drop 21 a
    → c ≡ take 21 b ++ two ++ payload ++ drop (21 + 2 + length payload) b → c ≡ front ++ five ++ two ++ payload ++ drop (23 + length payload) out
limited-written front five two payload out a b c long width is_a is_b is_c =
    let n : ℕ = length payload in
    let a_front : take 16 a ≡ front = ap (take 16) is_a ∙ take_at front (drop 16 out) 16 long in
    let a_rest : drop 21 a ≡ drop 21 out = sym (drop-drop 5 16 a) ∙ ap (drop 5) (ap (drop 16) is_a ∙ drop_at front (drop 16 out) 16 long) ∙ drop-drop 5 16 out in
    let b_is : b ≡ (front ++ five) ++ drop 21 out = is_b ∙ (λ i. a_front i ++ five ++ a_rest i) in
    let both : length (front ++ five) ≡ 21 = omega (arith, length-append front five, long, width) in
    let b_front : take 21 b ≡ front ++ five = ap (take 21) b_is ∙ take_at (front ++ five) (drop 21 out) 21 both in
    let first : 21 + 2 + n ≡ 21 + (2 + n) = omega arith in
    let last : 21 + (2 + n) ≡ 23 + n = omega arith in
    let b_rest : drop (21 + 2 + n) b ≡ drop (23 + n) out =
    ap (λ (k : ℕ). drop k b) first ∙ sym (drop-drop (2 + n) 21 b) ∙ ap (drop (2 + n)) (ap (drop 21) b_is ∙ drop_at (front ++ five) (drop 21 out) 21 both)
    ∙ drop-drop (2 + n) 21 out ∙ ap (λ (k : ℕ). drop k out) last in
    is_c ∙ (λ i. b_front i ++ two ++ payload ++ b_rest i)
