use Rattle.rly_disk.proofs.Common.{false, get_or, is_covered, ℕ, ◌<◌, ◌≡◌}
use Rattle.rly_disk.proofs.mem.MemDisk.is_image.Given as goal

abbrev pub invariant-loop-at : goal.invariant-loop-at
invariant-loop-at l = (k : ℕ) → k < l.at → is_covered l.pending k ≡ false → get_or l.image k 0 ≡ get_or l.self.bytes.items k 0
