use Rattle.std.proofs.Common.{◌≡◌, ◌+◌}
use Rattle.rly_machine.specs.State.{hop_at, live_line}
use Rattle.rly_segment_checkpoint.specs.Widths.{hop_width}
use Rattle.rly_journal_relocate.specs.HelpersRelocation.{collected_blank, with_hop}
use Rattle.rly_journal_relocate.proofs.Relocations.{first_moved, lined, past}
use Rattle.rly_journal_relocate.proofs.relocated_payloads.relocate_hop.Given as goal

-- the items so far lie in the head
abbrev pub invariant-loop-index : goal.invariant-loop-index
invariant-loop-index l = record {
  state : l.machine.state ≡ with_hop l.initial.machine.state l.hop
      (lined (hop_at l.initial.machine.state l.hop)
      (first_moved l.form (collected_blank l.geometry l.victim) l.index (l.at + hop_width l.form) (live_line (hop_at l.initial.machine.state l.hop))));
  next : l.next ≡ past l.form (collected_blank l.geometry l.victim) l.index (l.at + hop_width l.form) (live_line (hop_at l.initial.machine.state l.hop));
}
