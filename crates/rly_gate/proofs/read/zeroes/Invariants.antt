use Rattle.rly_gate.proofs.Common.{vec_capacity, vec_len, ◌≡◌}
use Rattle.rly_gate.proofs.read.zeroes.Given as goal

-- a byte for each index so far, in the memory that was reserved
abbrev pub invariant-loop-place : goal.invariant-loop-place
invariant-loop-place l = record { count : vec_len l.bytes ≡ l._place; room : vec_capacity l.bytes ≡ l.count }
