use Rattle.std.proofs.Common.{◌≡◌, take}
use Rattle.rly_machine.specs.State.{bytes_of}
use Rattle.rly_machine.proofs.hop.payload_bytes.Given as goal

-- the bytes of those so far
abbrev pub invariant-loop-index : goal.invariant-loop-index
invariant-loop-index g l = l.bytes ≡ bytes_of g.C.Content.length_of (take l.index l.items.items)
