use Rattle.std.proofs.Common.{◌≡◌, ℕ, ◌<◌, get_or}
use Rattle.rly_link_auth.proofs.key.is_same.Given as goal

abbrev pub invariant-loop-i : goal.invariant-loop-i
invariant-loop-i l = record {
  same : l.differing ≡ 0 → (k : ℕ) → k < l.i → get_or l.tag k 0 ≡ get_or l.right k 0;
  whole : l.tag ≡ l.right → l.differing ≡ 0;
}
