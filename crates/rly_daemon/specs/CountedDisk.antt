-- The model of a disk that counts its gates: that of the wrapped disk.
use Rattle.rly_disk.specs.DiskModel.{DiskState}
use Rattle.rly_daemon.specs.declared.counted_disk.CountedDisk.{CountedDisk}

abbrev pub counted_state : {D : Type 0} → (D → DiskState) → CountedDisk D → DiskState
counted_state state disk = state disk.inner
