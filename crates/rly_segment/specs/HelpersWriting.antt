-- Helpers: the images that a crash may leave within the private steps of an opening and of a format. No public contract
-- cites them; `Heads` and `Formatted` define those of the whole calls.
use Rattle.std.specs.Prelude.{◌≡◌, ◌↔◌, ℕ, ◌<◌, Bool, IsTrue, List, ◌∷◌, ◌++◌}
use Rattle.byteorder.specs.Endian.{big_bytes}
use Rattle.rly_core.specs.declared.params.Geometry.{Geometry}
use Rattle.rly_core.specs.declared.params.Params.{Params}
use Rattle.rly_disk.specs.DiskModel.{DiskState, SameOutside}
use Rattle.rly_disk.specs.Trace.{Makes}
use Rattle.rly_gate.specs.Group.{IsClosed, IsOpen, StandsAt, open_gate}
use Rattle.rly_segment.specs.Calls.{whole_format_calls}
use Rattle.rly_segment.specs.Device.{device_text, header_of}
use Rattle.rly_segment.specs.Heads.{segment_place}

-- within the closing of a gate: all other bytes unchanged, and if the gate is open, it was before
pub record IsClosing (place : ℕ) (old image : List ℕ) : Type 0 where
  pub outside : SameOutside place 1 old image
  pub gate : IsOpen image place → image ≡ old

-- all of a new device except the header's gate, with the given bytes after the first segment's gate
pub record IsUnopened (g : Geometry) (behind image : List ℕ) : Type 0 where
  pub header : StandsAt image 1 (header_of g)
  pub head : StandsAt image (segment_place g 0) (open_gate ∷ behind)
  pub others : (t : ℕ) → 0 < t → t < g.segments → IsClosed image (segment_place g t)

-- the calls of a format were made, all or up to the first failure: the first one returned whether the gate was closed
pub record Formats {D : Type 0} (state : D → DiskState) (g : Geometry) (head : List ℕ) (whole : Bool) (old new : D)
    : Type 0 where
  pub closed : Bool
  pub told : (state old).honest → (IsTrue closed ↔ IsClosed (state old).seen 0)
  pub row : Makes state (whole_format_calls g closed head) whole old new

-- the first fields of a header: the magic text, the version, the counts and the segments' length
abbrev pub shape_of : Geometry → List ℕ
shape_of g =
    device_text ++ big_bytes 2 2 ++ big_bytes 2 g.params.hops ++ big_bytes 2 g.params.peers
    ++ big_bytes 2 g.params.window ++ big_bytes 2 g.segments ++ big_bytes 4 g.length

-- the following fields
abbrev pub limits_of : Params → List ℕ
limits_of p =
    big_bytes 4 p.items ++ big_bytes 4 p.bytes ++ big_bytes 4 p.maxpacket ++ big_bytes 8 p.target
    ++ big_bytes 8 p.interval ++ big_bytes 2 p.payload
