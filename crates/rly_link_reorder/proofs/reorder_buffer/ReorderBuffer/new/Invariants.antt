use Rattle.std.proofs.Common.{◌≡◌, ◌≤◌, map}
use Rattle.std.specs.Prelude.{All, None, replicate}
use Rattle.rly_link_reorder.proofs.reorder_buffer.ReorderBuffer.new.Given as goal

-- the slots made so far, each with the memory for the longest packet
abbrev pub invariant-loop-place : goal.invariant-loop-place
invariant-loop-place l = record {
  empty : map (λ p. p.held) l.places.items ≡ replicate l._place None;
  roomy : All (λ p. l.longest ≤ p.room) l.places.items;
}
