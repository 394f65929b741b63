use Rattle.std.proofs.Common.{◌≡◌, ◌+◌, ◌*◌, length}
use Rattle.rly_segment.specs.Heads.{segment_place}
use Rattle.rly_journal_relocate.specs.HelpersRelocation.{collected_blank}
use Rattle.rly_journal_relocate.proofs.Relocations.{first_hops, hops_past}
use Rattle.rly_journal_relocate.proofs.relocated_payloads.relocate_all.Given as goal

-- the hops so far lie in the head
abbrev pub invariant-loop-index : goal.invariant-loop-index
invariant-loop-index l = record {
  state : l.machine.state ≡ record l.initial.machine.state {
    hops = first_hops l.form (collected_blank l.geometry l.victim) l.index (segment_place l.geometry l.target + 21 + 8 * length l.initial.machine.state.lasts) l.initial.machine.state.hops;
  };
  next : l.at ≡ hops_past l.form (collected_blank l.geometry l.victim) l.index (segment_place l.geometry l.target + 21 + 8 * length l.initial.machine.state.lasts) l.initial.machine.state.hops;
}
