use Rattle.std.proofs.Common.{◌≡◌, ◌+◌, ◌-◌, ◌≤◌, vec_len}
use Rattle.std.specs.Vec.{vec_capacity}
use Rattle.rly_record.specs.HelpersReader.{many_at}
use Rattle.rly_segment_checkpoint.specs.HelpersReader.{entry_at}
use Rattle.rly_record.proofs.Loops.{with_front}
use Rattle.rly_segment_checkpoint.proofs.reader.entries_of.Given as goal

abbrev pub invariant-loop : goal.invariant-loop
invariant-loop g l = record {
  so_far : with_front l.entries.items (many_at (entry_at l.form (g.C.Form.form_at l.form)) (l.count - l.counter) l.rest) ≡ many_at (entry_at l.form (g.C.Form.form_at l.form)) l.count l.bytes;
  room : vec_len l.entries + (l.count - l.counter) ≤ vec_capacity l.entries;
}
