use Rattle.std.proofs.Common.{◌≡◌, ◌+◌, ◌≤◌, ◌++◌, length, map, take, drop, vec_len}
use Rattle.std.specs.List.{flat_map}
use Rattle.std.specs.Vec.{vec_capacity}
use Rattle.rly_machine.specs.Kept.{hop_state}
use Rattle.rly_segment_checkpoint.specs.Checkpoint.{hop_spelled, spelled_by}
use Rattle.rly_segment_checkpoint.specs.declared.head_form.HeadForm.TheVariants.{Second}
use Rattle.rly_segment_checkpoint.proofs.writer.append_hops.Given as goal

abbrev pub invariant-loop-hop : goal.invariant-loop-hop
invariant-loop-hop g l = record {
  items : l.out.items ≡ l.fn.out.items ++ flat_map (hop_spelled g.C.Content.length_of (spelled_by g.C.Form.form Second)) (take l.hop-index (map hop_state l.hops));
  room : vec_len l.out + length (flat_map (hop_spelled g.C.Content.length_of (spelled_by g.C.Form.form Second)) (drop l.hop-index (map hop_state l.hops))) ≤ vec_capacity l.out;
  capacity : vec_capacity l.fn.out ≤ vec_capacity l.out;
}
