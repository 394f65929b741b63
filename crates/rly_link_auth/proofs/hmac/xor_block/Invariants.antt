use Rattle.std.proofs.Common.{◌≡◌, ℕ, ◌<◌, get_or, bit_xor, length}
use Rattle.rly_link_auth.proofs.hmac.xor_block.Given as goal

abbrev pub invariant-loop-i : goal.invariant-loop-i
invariant-loop-i l = record {
  long : length l.mixed ≡ 64;
  mixed : (k : ℕ) → k < l.i → get_or l.mixed k 0 ≡ bit_xor (get_or l.block k 0) l.pad;
}
