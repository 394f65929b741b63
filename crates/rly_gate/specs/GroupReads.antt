-- The read of a group, and the effect of calls that only read a disk.
use Rattle.std.specs.Prelude.{ℕ, ◌+◌, ◌<◌, ◌≤◌, ◌^◌, List, ◌∷◌}
use Rattle.std.specs.Prelude.{◌++◌, length, Option, Some, None, Result, Ok, Err, Vec}
use Rattle.byteorder.specs.Endian.{big_bytes}
use Rattle.rly_disk.specs.DiskModel.{DiskState, Later, NothingNew, Settled}
use Rattle.rly_gate.specs.declared.read.GroupFault.{GroupFault}
use Rattle.rly_gate.specs.declared.read.GroupFault.TheVariants.{OutOfMemory, Damaged, Device}
use Rattle.rly_gate.specs.Group.{IsClosed, IsOpen, StandsAt, frame_of, open_gate}

-- an offset has an open gate, the length of a body and the body, and the gate after them lies before an end
pub record HoldsGroup (image : List ℕ) (at end : ℕ) (body : List ℕ) : Type 0 where
  pub bytes : StandsAt image at (open_gate ∷ (big_bytes 4 (length body) ++ body))
  pub fits : length body < 2 ^ 32
  pub room : at + 1 + length (frame_of body) ≤ end

-- no group lies at the offset
abbrev pub HoldsNone : List ℕ → ℕ → ℕ → Type 0
HoldsNone image at end = (body : List ℕ) → HoldsGroup image at end body → ⊥

-- a group with a body of at least one byte lies at the offset
abbrev pub HoldsBytes : List ℕ → ℕ → ℕ → Type 0
HoldsBytes image at end = (body : List ℕ) × HoldsGroup image at end body × (0 < length body)

-- the result of a read at a gate: none if it is closed, else the body, or an error if no body fits
abbrev pub IsReadGroup : {A : Type 0} → List ℕ → ℕ → ℕ → Result (Option (Vec ℕ A)) GroupFault → Type 0
IsReadGroup image at end (Ok None) = IsClosed image at
IsReadGroup image at end (Ok (Some body)) = HoldsGroup image at end body.items
IsReadGroup image at end (Err Damaged) = IsOpen image at × HoldsNone image at end
IsReadGroup image at end (Err OutOfMemory) = Unit {0}
IsReadGroup image at end (Err Device) = Unit {0}

-- nothing was written: the disk reads as before, a crash leaves no image that it could not have left before, and
-- nothing is pending if nothing was; a sync may have been made
pub record OnlyRead (old new : DiskState) : Type 0 where
  pub crash : old.honest → NothingNew old new
  pub settled : Settled old → Settled new
  pub later : Later old new
