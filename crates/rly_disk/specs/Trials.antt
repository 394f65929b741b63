-- Lists of calls that are tried in turn (docs/reference/DEFINITIONS.md, "Trials"). A list ends at its first failure; the next one
-- is tried whether or not earlier ones failed.
use Rattle.std.specs.Prelude.{◌≡◌, ℕ, ◌+◌, Bool, true, if◌then◌else◌, List, [], ◌∷◌, ◌++◌}
use Rattle.std.specs.List.{AllByRecursion}
use Rattle.rly_disk.specs.DiskModel.{DiskState}
use Rattle.rly_disk.specs.Trace.{DeviceEvent, IsMade, Leads, are_reads, is_spent}

-- a list of calls that was tried, and whether all of them were made
pub record Try : Type 0 where
  pub calls : List DeviceEvent
  pub whole : Bool

abbrev pub row_of : List DeviceEvent → Bool → Try
row_of calls whole = record { calls = calls; whole = whole }

-- the events of lists in turn: of each list all its calls, or those up to the first failure
abbrev pub AreTried : Bool → List Try → List DeviceEvent → Type 0
AreTried spent [] events = events ≡ []
AreTried spent (row ∷ rows) events =
    (first : List DeviceEvent) × (rest : List DeviceEvent) × (events ≡ first ++ rest)
    × IsMade row.whole spent row.calls first × AreTried spent rows rest

-- exactly these lists of calls were tried on a disk; if no call was made the disk is unchanged
pub record Tries {D : Type 0} (state : D → DiskState) (rows : List Try) (old new : D) : Type 0 where
  pub events : List DeviceEvent
  pub leads : Leads events (state old) (state new)
  pub tried : AreTried (is_spent (state new)) rows events
  pub untouched : events ≡ [] → new ≡ old

-- the number of failed lists
abbrev pub failed_rows : List Try → ℕ
failed_rows [] = 0
failed_rows (row ∷ rows) = (if row.whole then 0 else 1) + failed_rows rows

-- the lists have reads only
abbrev pub AreReads : List Try → Type 0
AreReads rows = AllByRecursion (λ row. are_reads row.calls ≡ true) rows
