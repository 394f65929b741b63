-- The minimum length of segments, and when the next one is due (docs/reference/DEFINITIONS.md, "Room").
use Rattle.std.specs.Prelude.{ℕ, ◌+◌, ◌*◌, ◌/◌, ◌-◌, ◌<◌, ◌≤◌}
use Rattle.rly_core.specs.declared.params.Geometry.{Geometry}

-- the bytes of the largest group by the maximum length of a payload: 64 Takes of that length with the group's gate, and
-- one gate more
abbrev pub group_room : ℕ → ℕ
group_room payload = 64 * (23 + payload) + 8

-- the minimum length of a device's segments: the need of heads of form 1, of 71 bytes a hop and 27 an item; a head of
-- form 2 is shorter, so it fits if one of form 1 did
abbrev pub least_length : Geometry → ℕ
least_length g =
    21 + 8 * g.params.peers + 71 * g.params.hops + 27 * g.params.items + g.params.bytes / (g.segments - 1)
    + group_room g.params.payload

-- the segments are long enough: a head and the largest group after it always fit in one
abbrev pub Fits : Geometry → Type 0
Fits g = least_length g ≤ g.length

-- the largest group doesn't fit after this many bytes of a segment: before a round with a command, a new segment is
-- opened
abbrev pub IsDue : Geometry → ℕ → Type 0
IsDue g offset = g.length < offset + group_room g.params.payload
