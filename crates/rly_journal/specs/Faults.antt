-- The damaged offsets of an image (docs/FORMATS.md, "What opening checks"), and the refusal for a device that was not
-- opened.
use Rattle.std.specs.Prelude.{◌≡◌, ◌⊎◌, ℕ, List, length}
use Rattle.rly_core.specs.declared.params.Geometry.{Geometry}
use Rattle.rly_core.specs.declared.refusal.Refusal.{Refusal}
use Rattle.rly_core.specs.declared.refusal.Refusal.TheVariants as refusal
use Rattle.rly_machine.specs.Fold.{AllAccepted}
use Rattle.rly_gate.specs.Group.{IsOpen}
use Rattle.rly_gate.specs.GroupReads.{HoldsGroup}
use Rattle.rly_record.specs.Spelling.{HaveBody, body_of}
use Rattle.rly_segment.specs.Heads.{IsAmbiguous, IsNewest, segment_place}
use Rattle.rly_journal.specs.declared.open_fault.OpenFault.{OpenFault}
use Rattle.rly_journal.specs.declared.open_fault.OpenFault.TheVariants.{OutOfMemory, NotADevice}
use Rattle.rly_journal.specs.declared.open_fault.OpenFault.TheVariants.{BadGeometry, Damaged, Device}
use Rattle.rly_segment.specs.PlacedHeads.{HoldsNonePlaced}
use Rattle.rly_journal.specs.Recovery.{Commands, IsScanned, Recovery, recovery_end, gate_of, state_in}

-- the newest segment has no head with a state
pub record IsHeadless (image : List ℕ) (g : Geometry) (place : ℕ) : Type 0 where
  pub segment : ℕ
  pub newest : IsNewest image g segment
  pub none : HoldsNonePlaced image g segment
  pub at : place ≡ segment_place g segment

-- after the newest head and whole groups a gate is open, but no group of accepted commands follows it
pub record IsBroken (image : List ℕ) (place : ℕ) : Type 0 where
  pub x : Recovery
  pub scanned : IsScanned image x
  pub at : place ≡ gate_of x
  pub gate : IsOpen image place
  pub none : (commands : Commands) → HaveBody commands → HoldsGroup image place (recovery_end x) (body_of commands)
      → AllAccepted length (state_in x) commands → ⊥

-- the offset of the first damage on a device
abbrev pub IsDamagedAt : List ℕ → Geometry → ℕ → Type 0
IsDamagedAt image g place = IsAmbiguous image g place ⊎ IsHeadless image g place ⊎ IsBroken image place

-- the faults that depend on the image
abbrev pub IsOfImage : OpenFault → Type 0
IsOfImage NotADevice = Unit {0}
IsOfImage BadGeometry = Unit {0}
IsOfImage (Damaged place) = Unit {0}
IsOfImage OutOfMemory = ⊥
IsOfImage Device = ⊥

-- the refusal for a device that was not opened
abbrev pub opening_refusal : OpenFault → Refusal
opening_refusal OutOfMemory = refusal.OutOfMemory
opening_refusal NotADevice = refusal.NotADevice
opening_refusal BadGeometry = refusal.BadGeometry
opening_refusal (Damaged place) = refusal.Damaged place
opening_refusal Device = refusal.Device
