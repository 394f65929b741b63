use Rattle.std.proofs.Common.{◌≡◌, ◌+◌, ◌-◌, ◌≤◌, map, vec_len}
use Rattle.std.specs.Vec.{vec_capacity}
use Rattle.rly_machine.specs.Kept.{hop_state}
use Rattle.rly_record.specs.HelpersReader.{many_at}
use Rattle.rly_segment_checkpoint.specs.HelpersReader.{hop_bytes_at}
use Rattle.rly_record.proofs.Loops.{with_front}
use Rattle.rly_segment_checkpoint.proofs.reader.hops_of.Given as goal

abbrev pub invariant-loop : goal.invariant-loop
invariant-loop g l = record {
  so_far : with_front (map hop_state l.hops.items) (many_at (hop_bytes_at l.form (g.C.Form.form_at l.form)) (l.count - l.counter) l.rest) ≡ many_at (hop_bytes_at l.form (g.C.Form.form_at l.form)) l.count l.bytes;
  room : vec_len l.hops + (l.count - l.counter) ≤ vec_capacity l.hops;
}
