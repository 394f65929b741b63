-- When two bytes differ.
use Rattle.std.proofs.Common.{◌≡◌, ℕ, ◌+◌, ◌%◌, sym, ◌∙◌, ap, arith, bit_or, bit_xor}
use Rattle.std.specs.Int.{bit_at}
use Rattle.std.proofs.lemmas.Nat.Bits.{same_from_bits, bit_at_or, bit_at_xor, bit_at-zero, bit_at-lt}

-- two numbers are the same if nothing of them differs
pub same-xor_zero : (a b : ℕ) → bit_xor a b ≡ 0 → a ≡ b
same-xor_zero a b h =
    same_from_bits a b (λ i.
    let e : (bit_at a i + bit_at b i) % 2 ≡ 0 = sym (bit_at_xor a b i) ∙ ap (λ n. bit_at n i) h ∙ bit_at-zero i in
    omega (arith, bit_at-lt a i, bit_at-lt b i, e))

pub xor-same : (a : ℕ) → bit_xor a a ≡ 0
xor-same a =
    same_from_bits (bit_xor a a) 0 (λ i.
    let e = bit_at_xor a a i in
    let z = bit_at-zero i in
    omega (arith, bit_at-lt a i, e, z))

-- neither of two numbers has a bit if both together have none
pub left-or_zero : (a b : ℕ) → bit_or a b ≡ 0 → a ≡ 0
left-or_zero a b h =
    same_from_bits a 0 (λ i.
    let e = sym (bit_at_or a b i) ∙ ap (λ n. bit_at n i) h ∙ bit_at-zero i in
    let z = bit_at-zero i in
    omega (arith, e, z))

pub right-or_zero : (a b : ℕ) → bit_or a b ≡ 0 → b ≡ 0
right-or_zero a b h =
    same_from_bits b 0 (λ i.
    let e = sym (bit_at_or a b i) ∙ ap (λ n. bit_at n i) h ∙ bit_at-zero i in
    let z = bit_at-zero i in
    omega (arith, e, z))
