-- The cause of a refusal: the part of a device's file that failed, or the location of a plan's fault.
use Rattle.std.specs.Prelude.{Option, Some, None}
use Rattle.std.specs.declared.io.ErrorKind.{ErrorKind}
use Rattle.std.specs.declared.io.ErrorKind.TheVariants as kind
use Rattle.rly_core.specs.declared.refusal.Refusal.{Refusal}
use Rattle.rly_core.specs.declared.refusal.Refusal.TheVariants as refusal
use Rattle.rly_plan_syntax.specs.declared.key_path.KeyPath.{KeyPath}
use Rattle.rly_station.specs.declared.file_fault.Cause.{Cause}
use Rattle.rly_station.specs.declared.file_fault.Cause.TheVariants.{At, Header, System, NoCause}
use Rattle.rly_station.specs.declared.file_fault.FileFault.{FileFault}
use Rattle.rly_station.specs.declared.file_fault.FilePart.{FilePart}
use Rattle.rly_station.specs.declared.file_fault.FilePart.TheVariants.{Device, Permission, Room}

-- no permission, no room, or another fault of the file
abbrev pub part_of : ErrorKind → FilePart
part_of kind.PermissionDenied = Permission
part_of kind.ReadOnlyFilesystem = Permission
part_of kind.StorageFull = Room
part_of kind.QuotaExceeded = Room
part_of kind.FileTooLarge = Room
part_of _ = Device

-- the cause of a refusal on opening a device, or on a failed call of it, by the fault of the first of its failed
-- calls
abbrev pub device_cause : Refusal → Option FileFault → Cause
device_cause refusal.BadGeometry first = Header
device_cause refusal.Device (Some fault) = System fault
device_cause refusal.Broken (Some fault) = System fault
device_cause _ _ = NoCause

-- the location of a plan's fault, if there is one
abbrev pub cause_at : Option KeyPath → Cause
cause_at None = NoCause
cause_at (Some place) = At place
