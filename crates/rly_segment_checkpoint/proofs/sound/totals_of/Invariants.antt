use Rattle.std.proofs.Common.{◌≡◌, ◌*◌, ◌≤◌, ◌^◌, length, map, take, sum_by}
use Rattle.std.specs.Prelude.{All}
use Rattle.rly_machine.specs.Kept.{hop_state}
use Rattle.rly_machine.specs.Sound.{IsSoundHop}
use Rattle.rly_machine.specs.State.{bytes_of, live_line}
use Rattle.rly_segment_checkpoint.proofs.sound.totals_of.Given as goal

-- the hops so far are sound, and their totals
abbrev pub invariant-loop-hop : goal.invariant-loop-hop
invariant-loop-hop g l = record {
  sound : All (IsSoundHop g.C.Content.length_of l.params l.seq) (take l.hop-index (map hop_state l.hops));
  taken : l.totals.taken ≡ sum_by (λ h. h.taken) (take l.hop-index (map hop_state l.hops));
  items : l.totals.items ≡ sum_by (λ h. length (live_line h)) (take l.hop-index (map hop_state l.hops));
  bytes : l.totals.bytes ≡ sum_by (λ h. bytes_of g.C.Content.length_of (live_line h)) (take l.hop-index (map hop_state l.hops));
  few_taken : l.totals.taken ≤ 2 ^ 48 * l.hop-index;
  few_items : l.totals.items ≤ 16384 * l.hop-index;
  few_bytes : l.totals.bytes ≤ 134217728 * l.hop-index;
}
