-- The longest wait of a link that isn't open.
use Rattle.std.proofs.Common.{◌≡◌, ℕ, ◌*◌, ◌^◌, ◌≤◌, arith, min}
use Rattle.std.proofs.Math.Pow.{pow_mono}

-- from the fifth refusal on
pub longest_wait : (count : ℕ) → 4 ≤ count → 60000000 ≡ min (5000000 * 2 ^ count) 60000000
longest_wait count many =
    let power : 2 ^ 4 ≤ 2 ^ count = pow_mono many in
    omega arith
