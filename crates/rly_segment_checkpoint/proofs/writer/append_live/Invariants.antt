use Rattle.std.proofs.Common.{◌≡◌, ◌+◌, ◌≤◌, ◌++◌, length, take, drop, vec_len}
use Rattle.std.specs.List.{flat_map}
use Rattle.std.specs.Vec.{vec_capacity}
use Rattle.rly_machine.specs.Kept.{hop_state}
use Rattle.rly_machine.specs.State.{live_line}
use Rattle.rly_segment_checkpoint.specs.Checkpoint.{entry_spelled, spelled_by}
use Rattle.rly_segment_checkpoint.specs.declared.head_form.HeadForm.TheVariants.{Second}
use Rattle.rly_segment_checkpoint.proofs.writer.append_live.Given as goal

abbrev pub invariant-loop-index : goal.invariant-loop-index
invariant-loop-index g l = record {
  items : l.out.items ≡ l.fn.out.items ++ flat_map (entry_spelled g.C.Content.length_of (spelled_by g.C.Form.form Second)) (take l.index (live_line (hop_state l.hop)));
  room : vec_len l.out + length (flat_map (entry_spelled g.C.Content.length_of (spelled_by g.C.Form.form Second)) (drop l.index (live_line (hop_state l.hop)))) ≤ vec_capacity l.out;
  len : vec_len l.out + length (flat_map (entry_spelled g.C.Content.length_of (spelled_by g.C.Form.form Second)) (drop l.index (live_line (hop_state l.hop)))) ≡ vec_len l.fn.out + length (flat_map (entry_spelled g.C.Content.length_of (spelled_by g.C.Form.form Second)) (live_line (hop_state l.hop)));
  capacity : vec_capacity l.fn.out ≤ vec_capacity l.out;
}
