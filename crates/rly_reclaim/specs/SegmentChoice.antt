-- The choice of the segment to open next, and of the segment to clean for it (docs/reference/DEFINITIONS.md, "Room").
use Rattle.std.specs.Prelude.{◌≡◌, ◌≢◌, ℕ, ◌+◌, ◌*◌, ◌/◌, ◌-◌, ◌<◌, ◌≤◌, List, length, slice_index, slice_set}
use Rattle.rly_core.specs.declared.params.Geometry.{Geometry}
use Rattle.rly_reclaim.specs.Room.{group_room}

-- a segment that may be opened: it isn't the current one, and holds no live payload byte
pub record MayOpen (live : List ℕ) (current segment : ℕ) : Type 0 where
  pub there : segment < length live
  pub other : segment ≢ current
  pub empty : slice_index live segment ≡ 0

-- the free segment: the first that may be opened
pub record IsFree (live : List ℕ) (current segment : ℕ) : Type 0 where
  pub may_open : MayOpen live current segment
  pub first : (s : ℕ) → MayOpen live current s → segment ≤ s

abbrev pub NoneIsFree : List ℕ → ℕ → Type 0
NoneIsFree live current = (s : ℕ) → ¬ MayOpen live current s

-- the victim, the segment to clean: of all but the free segment the first with the fewest live payload bytes
pub record IsVictim (live : List ℕ) (free segment : ℕ) : Type 0 where
  pub there : segment < length live
  pub other : segment ≢ free
  pub fewest : (s : ℕ) → s < length live → s ≢ free → slice_index live segment ≤ slice_index live s
  pub first : (s : ℕ) → s < segment → s ≢ free → slice_index live segment < slice_index live s

-- the bytes of a head as it is written, in form 2, up to the gate of the first group: from the number of entries by
-- device address, the number of entries inline, and the inline payload bytes
abbrev pub head_length : Geometry → ℕ → ℕ → ℕ → ℕ
head_length g by_place inline payload_bytes =
    21 + 8 * g.params.peers + 64 * g.params.hops + 26 * by_place + 21 * inline + payload_bytes

-- the live payload bytes of each segment after the victim's payloads moved into the head of the segment that was opened
abbrev pub live_after_relocation : List ℕ → ℕ → ℕ → List ℕ
live_after_relocation live free victim = slice_set (slice_set live victim 0) free (slice_index live victim)

-- the properties of the segment that is opened, if segments are long enough and live data is within the limits
pub record HasHeadRoom (g : Geometry) (live : List ℕ) (free victim : ℕ) : Type 0 where
  -- the victim has few live bytes
  pub few : slice_index live victim ≤ g.params.bytes / (g.segments - 1)
  -- the new head, with the victim's payloads inline, has room, and so has the largest group after it
  pub room : (by_place inline : ℕ) → by_place + inline ≤ g.params.items
      → head_length g by_place inline (slice_index live victim) + group_room g.params.payload ≤ g.length
  -- the victim may be opened next
  pub next : MayOpen (live_after_relocation live free victim) free victim
