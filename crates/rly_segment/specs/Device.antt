-- The header of a device, and its geometry (docs/FORMATS.md, "The device").
use Rattle.std.specs.Prelude.{ℕ, ◌+◌, ◌*◌, ◌<◌, ◌≤◌, ◌^◌, ◌==◌, if◌then◌else◌, List, [], ◌∷◌, ◌++◌, length, take, drop}
use Rattle.byteorder.specs.Endian.{big_bytes, big_number}
use Rattle.rly_core.specs.Bounds.{IsIn}
use Rattle.rly_core.specs.Limits.{IsWithinLimits}
use Rattle.rly_core.specs.declared.params.Geometry.{Geometry}
use Rattle.rly_gate.specs.Group.{IsOpen, StandsAt}
use Rattle.rly_reclaim.specs.Room.{Fits}

-- RLYDEV01
abbrev pub device_text : List ℕ
device_text = 0x52 ∷ 0x4c ∷ 0x59 ∷ 0x44 ∷ 0x45 ∷ 0x56 ∷ 0x30 ∷ 0x31 ∷ []

-- the number in the given number of bytes at an offset
abbrev pub number_in : List ℕ → ℕ → ℕ → ℕ
number_in image place width = big_number width (take width (drop place image))

-- the version of a header, after the text
abbrev pub version_in : List ℕ → ℕ
version_in image = number_in image 9 2

-- the maximum payload length of a header: version 2 has a field for it; version 1, of programs before that field,
-- implies 1,200
abbrev pub longest_in : List ℕ → ℕ
longest_in image = if version_in image == 2 then number_in image 51 2 else 1200

-- the bytes after the header's gate, as written: version 2
unfoldable pub header_of : Geometry → List ℕ
header_of g =
    device_text ++ big_bytes 2 2 ++ big_bytes 2 g.params.hops ++ big_bytes 2 g.params.peers
    ++ big_bytes 2 g.params.window ++ big_bytes 2 g.segments ++ big_bytes 4 g.length ++ big_bytes 4 g.params.items
    ++ big_bytes 4 g.params.bytes ++ big_bytes 4 g.params.maxpacket ++ big_bytes 8 g.params.target
    ++ big_bytes 8 g.params.interval ++ big_bytes 2 g.params.payload

-- the geometry in the fields of a header
unfoldable pub geometry_in : List ℕ → Geometry
geometry_in image = record {
  params = record {
    hops = number_in image 11 2;
    peers = number_in image 13 2;
    window = number_in image 15 2;
    items = number_in image 23 4;
    bytes = number_in image 27 4;
    maxpacket = number_in image 31 4;
    target = number_in image 35 8;
    interval = number_in image 43 8;
    payload = longest_in image;
  };
  segments = number_in image 17 2;
  length = number_in image 19 4;
}

-- the image of a device with a header: the gate is open, and the text and version 1 or 2 follow it
pub record IsDevice (image : List ℕ) : Type 0 where
  pub long : 64 ≤ length image
  pub gate : IsOpen image 0
  pub mark : StandsAt image 1 device_text
  pub version : IsIn 1 2 (version_in image)

-- the number of bytes of a device that are used
abbrev pub device_length : Geometry → ℕ
device_length g = 64 + g.segments * g.length

-- a geometry of a device of this size: 2 to 256 segments, each long enough
pub record IsLayout (g : Geometry) (size : ℕ) : Type 0 where
  pub params : IsWithinLimits g.params
  pub segments : IsIn 2 256 g.segments
  pub length : g.length < 2 ^ 31
  pub fits : Fits g
  pub room : device_length g ≤ size
