-- The ranges of segments.
use Rattle.rly_segment.proofs.Common.{◌<◌, ◌≤◌, arith, Geometry, IsLayout, segment_end, segment_place, ℕ}

-- in order, without overlap
pub segment_behind : (g : Geometry) (t segment : ℕ) → t < segment → segment_end g t ≤ segment_place g segment
segment_behind g t segment before = grind arith

-- each ends before the device does
pub segment_within : (g : Geometry) (segment size : ℕ) → IsLayout g size → segment < g.segments → segment_end g segment ≤ size
segment_within g segment size layout there = omega (arith, layout.room, segment_behind g segment g.segments there)
