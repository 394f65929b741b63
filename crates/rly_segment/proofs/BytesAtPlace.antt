-- Bytes at an offset, and their parts.
use Rattle.rly_segment.proofs.Common.{◌+◌, ◌≡◌, ◌≤◌, arith, drop, ext_get_or, length-drop, length-take, List, places, take, ℕ}
pub use Rattle.rly_gate.proofs.Frames.{stands_back, stands_both, stands_front}

-- a part of the bytes after an offset
pub part_of_front : (image front : List ℕ) (at n place width : ℕ) → front ≡ take n (drop at image) → place + width ≤ n
    → take width (drop place front) ≡ take width (drop (at + place) image)
part_of_front image front at n place width is within = rw is (ext_get_or 0 _ _ (simp (length-take, length-drop) (omega arith)) (λ i h. grind (arith, places)))
