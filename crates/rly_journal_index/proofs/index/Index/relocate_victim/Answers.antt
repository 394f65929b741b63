use Rattle.std.proofs.Common.{ℕ, ◌≡◌, ◌<◌, ◌≤◌, List, arith, ap, length, set, slice_index, subst, sym, ◌∙◌}
use Rattle.rly_machine.specs.State.{State}
use Rattle.rly_segment_checkpoint.specs.Stored.{stored_form, stored_length}
use Rattle.rly_segment_checkpoint.specs.declared.stored.Stored.{Stored}
use Rattle.rly_reclaim.specs.LiveRoom.{collected_state}
use Rattle.rly_segment.specs.Heads.{gate_after}
use Rattle.rly_journal_relocate.specs.Relocation.{MayMove, relocated_state, zeros_at}
use Rattle.rly_journal_index.specs.HelpersCounters.{KeepsIndex}
use Rattle.rly_journal_index.specs.Index.{IndexState}
use Rattle.rly_journal_index.proofs.Counters.{keeps_moved}
use Rattle.rly_journal_index.proofs.index.Index.relocate_victim.Goals as goal

pub invariant_of-self : goal.invariant_of-self
invariant_of-self c =
    let x = c.self.inside in
    let g = x.geometry in
    let s = x.machine.state in
    let target = c.args.choice.target in
    let victim = c.args.choice.victim in
    let live : List ℕ = set (set x.live target (slice_index x.live victim)) victim 0 in
    let may : MayMove g target victim s = subst (λ (v : IndexState). MayMove v.geometry target victim v.spool.state) (sym c.self.view_is) c.requires.may in
    let below : victim < g.segments = omega (arith, c.requires.victim, ap (λ (v : IndexState). v.geometry.segments) c.self.view_is) in
    let gate : c.args.gate ≡ gate_after stored_length stored_form g target (collected_state g victim zeros_at s) =
    c.requires.gate
    ∙ sym (ap (λ (v : IndexState). gate_after stored_length stored_form v.geometry target (collected_state v.geometry victim zeros_at v.spool.state)) c.self.view_is) in
    let long : g.segments ≤ length x.live = omega (arith, c.self.told, c.self.invariant.holds.layout.segments.1) in
    subst (λ (t : State Stored). KeepsIndex g target c.args.gate t live) (sym c.relocate_all.ensures)
    (subst (λ (n : ℕ). KeepsIndex g target n (relocated_state g target victim s) live) (sym gate)
    (keeps_moved g x.segment x.used target victim s x.live c.self.invariant long may below))
