use Rattle.std.proofs.Common.{◌≡◌}
use Rattle.rly_link_reorder.specs.ReorderBuffer.{heard_from}
use Rattle.rly_link_reorder.proofs.reorder_buffer.ReorderBuffer.heard_bits.Given as goal

-- the bits of the places so far
abbrev pub invariant-loop-place : goal.invariant-loop-place
invariant-loop-place l = l.bits ≡ heard_from l.fn.self l.place
