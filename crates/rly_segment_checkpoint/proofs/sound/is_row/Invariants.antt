use Rattle.rly_machine.specs.Kept.{hop_state}
use Rattle.rly_machine.specs.State.{live_line}
use Rattle.std.proofs.Common.{drop}
use Rattle.rly_segment_checkpoint.specs.HelpersRows.{IsRow}
use Rattle.rly_segment_checkpoint.proofs.sound.is_row.Given as goal

-- the whole is in order if and only if the rest is, after the last item
abbrev pub invariant-loop-index : goal.invariant-loop-index
invariant-loop-index g l = record {
  there : IsRow g.C.Content.length_of l.params l.hop.moment l.seq 0 0 (live_line (hop_state l.hop)) → IsRow g.C.Content.length_of l.params l.hop.moment l.seq l.id l.stamp (drop l.index (live_line (hop_state l.hop)));
  back : IsRow g.C.Content.length_of l.params l.hop.moment l.seq l.id l.stamp (drop l.index (live_line (hop_state l.hop))) → IsRow g.C.Content.length_of l.params l.hop.moment l.seq 0 0 (live_line (hop_state l.hop));
}
