-- What a device was made with (docs/COMMANDS.md, "rly audit"): one line of the parameters in its header, in the order of
-- format's options.
use Rattle.std.specs.Prelude.{◌≡◌, ◌⊎◌, ℕ, List, [], ◌∷◌, ◌++◌, Option, Ok, Err, codes}
use Rattle.std.specs.Fmt.{decimal}
use Rattle.std.specs.Io.KnownBytes.{Appends}
use Rattle.rly_core.specs.declared.params.Geometry.{Geometry}
use Rattle.rly_core.specs.declared.params.Params.{Params}
use Rattle.rly_core.specs.declared.refusal.Refusal.{Refusal}
use Rattle.rly_core.specs.declared.refusal.Refusal.TheVariants as refusal
use Rattle.rly_disk.specs.DiskModel.{DiskState}
use Rattle.rly_daemon_reply.specs.Beginnings.{BreaksOff}
use Rattle.rly_segment.specs.Answers.{IsReadHeader}
use Rattle.rly_segment.specs.Device.{IsLayout}
use Rattle.rly_segment.specs.declared.header.HeaderFault.{HeaderFault}
use Rattle.rly_segment.specs.declared.header.HeaderFault.TheVariants as header

-- hops H peers P window W items I bytes B
abbrev pub sizes_text : Params → List ℕ
sizes_text p =
    codes "made hops " ++ decimal p.hops ++ codes " peers " ++ decimal p.peers ++ codes " window " ++ decimal p.window
    ++ codes " items " ++ decimal p.items ++ codes " bytes " ++ decimal p.bytes

-- maxpacket M target T interval V payload L
abbrev pub codel_text : Params → List ℕ
codel_text p =
    codes " maxpacket " ++ decimal p.maxpacket ++ codes " target " ++ decimal p.target ++ codes " interval "
    ++ decimal p.interval ++ codes " payload " ++ decimal p.payload

-- segments S length N
abbrev pub layout_text : Geometry → List ℕ
layout_text g = codes " segments " ++ decimal g.segments ++ codes " length " ++ decimal g.length ++ 10 ∷ []

-- the line
abbrev pub made_line : Geometry → List ℕ
made_line g = sizes_text g.params ++ codel_text g.params ++ layout_text g

-- a geometry that a disk of this size may have, and which stands in its header, if it is honest
pub record IsMade (disk : DiskState) (g : Geometry) : Type 0 where
  pub layout : IsLayout g disk.size
  pub stands : disk.honest → IsReadHeader disk.seen (Ok g)

-- its line was written, or a proper prefix of it
pub record IsMadeTold (disk : DiskState) (old new : Option (List ℕ)) : Type 0 where
  pub geometry : Geometry
  pub made : IsMade disk geometry
  pub written : Appends old new (made_line geometry)

pub record IsMadeBegun (disk : DiskState) (old new : Option (List ℕ)) : Type 0 where
  pub geometry : Geometry
  pub made : IsMade disk geometry
  pub begun : BreaksOff old new (made_line geometry)

-- the refusal of a device for the fault of its header
abbrev pub header_refusal : HeaderFault → Refusal
header_refusal header.NotADevice = refusal.NotADevice
header_refusal header.BadGeometry = refusal.BadGeometry
header_refusal header.Device = refusal.Device

-- the refusal is that of the header's fault in these bytes, or of memory
abbrev pub IsMadeRefusal : List ℕ → Refusal → Type 0
IsMadeRefusal image answered =
    ((fault : HeaderFault) × IsReadHeader image (Err fault) × (answered ≡ header_refusal fault))
    ⊎ (answered ≡ refusal.OutOfMemory)
