-- Which items may be dropped: over, front, armed (RFC 8289 section 5, dodequeue).
use Rattle.std.specs.Prelude.{ℕ, suc, ◌+◌, ◌-◌, Bool, ◌&&◌, nat_le, nat_lt, if◌then◌else◌, IsTrue}
use Rattle.std.specs.Prelude.{List, [], ◌∷◌, drop, HoldsAt}
use Rattle.rly_core.specs.declared.params.Params.{Params}
use Rattle.rly_codel.specs.LaneItems.{LaneItem, lane_bytes}
use Rattle.rly_codel.specs.declared.state.CodelState.{CodelState}

-- over: it has waited for target or longer, and more than maxpacket bytes wait after it
abbrev pub is_over : Params → ℕ → LaneItem → List LaneItem → Bool
is_over p now item behind = nat_le p.target (now - item.stamp) && nat_lt p.maxpacket (lane_bytes behind)

-- front: the number of items at the front that are over, before the first one that isn't
abbrev pub front_of : Params → ℕ → List LaneItem → ℕ
front_of p now [] = 0
front_of p now (item ∷ behind) = if is_over p now item behind then suc (front_of p now behind) else 0

-- the item at an index is over
abbrev pub IsOverAt : Params → ℕ → List LaneItem → ℕ → Type 0
IsOverAt p now q i = HoldsAt (λ item. IsTrue (is_over p now item (drop (i + 1) q))) q i

-- armed: items have been over for an interval
abbrev pub is_armed : ℕ → CodelState → Bool
is_armed now s = nat_lt 0 s.first_above_time && nat_le s.first_above_time now
