use Rattle.std.proofs.Common.{◌≡◌, take}
use Rattle.rly_link.specs.Memory.{log_bytes}
use Rattle.rly_link.proofs.packet_log.bytes_in.Given as goal

abbrev pub invariant-loop-byte : goal.invariant-loop-byte
invariant-loop-byte l = log_bytes l.bytes ≡ take l.byte-index l.packet
