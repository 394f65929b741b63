-- The reason that an image recovers to no state: the first failed check (docs/FORMATS.md, "What opening checks").
use Rattle.std.specs.Prelude.{List, ℕ, length}
use Rattle.rly_segment.specs.Device.{IsDevice, IsLayout, geometry_in}
use Rattle.rly_segment.specs.Heads.{IsNewest}
use Rattle.rly_journal.specs.declared.open_fault.OpenFault.{OpenFault}
use Rattle.rly_journal.specs.declared.open_fault.OpenFault.TheVariants.{OutOfMemory, NotADevice}
use Rattle.rly_journal.specs.declared.open_fault.OpenFault.TheVariants.{BadGeometry, Damaged, Device}
use Rattle.rly_journal.specs.Faults.{IsDamagedAt}

-- a device of some geometry with exactly one newest open head: only then does an opening allocate
pub record HasNewestHead (image : List ℕ) : Type 0 where
  pub device : IsDevice image
  pub fits : IsLayout (geometry_in image) (length image)
  pub segment : ℕ
  pub newest : IsNewest image (geometry_in image) segment

-- the first failed check of an image; memory allocation fails only after all checks before the newest head's passed
abbrev pub IsRefused : List ℕ → OpenFault → Type 0
IsRefused image NotADevice = IsDevice image → ⊥
IsRefused image BadGeometry = IsDevice image × (IsLayout (geometry_in image) (length image) → ⊥)
IsRefused image (Damaged place) =
    IsDevice image × IsLayout (geometry_in image) (length image) × IsDamagedAt image (geometry_in image) place
IsRefused image OutOfMemory = HasNewestHead image
IsRefused image Device = Unit {0}
