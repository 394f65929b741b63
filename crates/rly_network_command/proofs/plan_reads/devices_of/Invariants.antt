use Rattle.std.proofs.Common.{map, take}
use Rattle.rly_network_command.specs.NetworkCheck.{AreDevices}
use Rattle.rly_network_command.proofs.plan_reads.devices_of.Given as goal

-- the devices of the names so far
abbrev pub invariant-loop-index : goal.invariant-loop-index
invariant-loop-index g l = AreDevices (map (λ s. s.now) (take l.index l.names)) l.devices.items
