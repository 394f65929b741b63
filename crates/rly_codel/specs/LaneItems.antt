-- The items of a lane as CoDel sees them: the front item first.
use Rattle.std.specs.Prelude.{ℕ, List, sum_by}

-- a waiting item: its arrival time in microseconds, and its number of payload bytes
pub record LaneItem : Type 0 where
  pub stamp : ℕ
  pub bytes : ℕ

-- the payload bytes of items; for the items after a candidate, the `bytes()` of RFC 8289 section 5, which is called
-- after the candidate left the queue
abbrev pub lane_bytes : List LaneItem → ℕ
lane_bytes items = sum_by (λ item. item.bytes) items
