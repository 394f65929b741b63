-- The fault for a failed read of a payload.
use Rattle.rly_gate.specs.declared.read.ReadFault.{ReadFault}
use Rattle.rly_gate.specs.declared.read.ReadFault.TheVariants as read
use Rattle.rly_journal_relocate.specs.declared.fault.CollectionFault.{CollectionFault}
use Rattle.rly_journal_relocate.specs.declared.fault.CollectionFault.TheVariants.{Device, OutOfMemory}

abbrev pub fault_of : ReadFault → CollectionFault
fault_of read.OutOfMemory = OutOfMemory
fault_of read.Device = Device
