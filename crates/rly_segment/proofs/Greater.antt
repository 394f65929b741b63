-- The greatest generation of the open heads, segment by segment.
use Rattle.rly_segment.proofs.Common.{◌+◌, ◌<◌, ◌∙◌, ◌≡◌, ◌≤◌, AreClosed, arith, below_more, Bool, eqb, eqb-false, eqb-true, false, generation_in, Geometry}
use Rattle.rly_segment.proofs.Common.{get_or-set_same, is_some, IsClosed, IsFound, IsGreatest, IsLastOfTie, IsNewest, IsOpen, IsReadGate, length, List, None}
use Rattle.rly_segment.proofs.Common.{not, Option, places, segment_place, set, Some, true, ℕ}

module _ (image : List ℕ) (g : Geometry) (n : ℕ) where
  -- after a gate that is closed, or whose generation is less
  pub greater_kept : {best : _} → IsGreatest image g n best → (IsOpen image (segment_place g n) → generation_in image g n < best.generation)
      → IsGreatest image g (n + 1) best
  greater_kept is less = search (arith, is, is.most, is.last, is.shared, is.alone, less)

  pub greater_closed : (found : _) → IsFound image g n found → IsClosed image (segment_place g n) → IsFound image g (n + 1) found
  greater_closed None is closed = below_more (λ t. IsClosed image (segment_place g t)) n is closed
  greater_closed (Some best) is closed = greater_kept is (λ opened. absurd (closed opened))

  -- after an open gate whose generation is at least as great
  pub greater_replaced : {best : _} {generation : ℕ} → IsGreatest image g n best → IsReadGate image (segment_place g n) (Some generation)
      → best.generation ≤ generation → IsGreatest image g (n + 1) (record { segment = n; generation = generation; is_shared = eqb generation best.generation })
  greater_replaced {best} {generation} before opened more =
      search (arith, before, before.most, opened, eqb-true generation best.generation, eqb-false generation best.generation)

  -- the gates that are closed
  pub closed_more : (flags : List Bool) (gate : Option ℕ) (closed : Bool) → n < length flags → is_some gate ≡ not closed → AreClosed image g n flags
      → IsReadGate image (segment_place g n) gate → AreClosed image g (n + 1) (set flags n closed)
  closed_more flags gate closed within e before read = λ t below. grind (arith, places, before t, get_or-set_same flags n closed false within)

module _ {image : List ℕ} {g : Geometry} {n : ℕ} {best : _} (is : IsGreatest image g n best) (all : n ≡ g.segments) where
  -- the last of those that share the greatest generation
  pub last_of_tie : best.is_shared ≡ true → IsLastOfTie image g best.segment
  last_of_tie tied = let other = is.shared tied in search (arith, is, is.most, is.last, other, other.3 ∙ is.generation)

  -- the only one that has it
  pub newest_of : best.is_shared ≡ false → IsNewest image g best.segment
  newest_of single = let alone = is.alone single in search (arith, is, alone)
