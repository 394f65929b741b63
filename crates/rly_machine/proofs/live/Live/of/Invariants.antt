use Rattle.std.proofs.Common.{◌≡◌, length, map, sum_by, take}
use Rattle.rly_machine.specs.Kept.{hop_state}
use Rattle.rly_machine.specs.State.{bytes_of, live_line}
use Rattle.rly_machine.proofs.live.Live.of.Given as goal

-- the live items and bytes of the hops so far
abbrev pub invariant-loop-hop : goal.invariant-loop-hop
invariant-loop-hop g l = record {
  counted : l.items ≡ sum_by (λ h. length (live_line h)) (take l.hop-index (map hop_state l.hops));
  weighed : l.bytes ≡ sum_by (λ h. bytes_of g.C.Content.length_of (live_line h)) (take l.hop-index (map hop_state l.hops));
}
