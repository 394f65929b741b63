use Rattle.std.proofs.Common.{ℕ, ◌≡◌, List, ap, subst, sym, ◌∙◌}
use Rattle.rly_machine.specs.State.{State}
use Rattle.rly_segment_checkpoint.specs.declared.stored.Stored.{Stored}
use Rattle.rly_reclaim.specs.Places.{live_by_segment}
use Rattle.rly_segment.specs.HeadAddresses.{state_in_head}
use Rattle.rly_journal_index.specs.HelpersCounters.{KeepsIndex}
use Rattle.rly_journal_index.proofs.Counters.{keeps_begun}
use Rattle.rly_journal_index.proofs.index.Index.begin.Goals as goal

pub invariant_of-result : goal.invariant_of-result
invariant_of-result c =
    let g = c.args.geometry in
    let w = c.args.head.form in
    let s = c.args.head.machine.state in
    let live : List ℕ = c.live_by_segment-live.result in
    let same : c.relocate_read.new.machine.state ≡ state_in_head w g c.args.segment s = c.relocate_read.ensures in
    let keeps = keeps_begun w g c.args.segment c.args.head.generation s live c.requires.layout c.requires.segment c.requires.head c.requires.placed
    (c.live_by_segment-live.ensures ∙ ap (λ (t : State Stored). live_by_segment g t) same) in
    subst (λ (t : State Stored). KeepsIndex g c.args.segment c.args.head.gate t live) (sym same)
    (subst (λ (n : ℕ). KeepsIndex g c.args.segment n (state_in_head w g c.args.segment s) live) (sym c.requires.gate) keeps)
