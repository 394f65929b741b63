use Rattle.std.proofs.Common.{◌<◌, arith, ap, ◌∙◌}
use Rattle.rly_reclaim.specs.Places.{live_in}
use Rattle.rly_journal_index.specs.Index.{IndexState}
use Rattle.rly_journal_index.proofs.Counters.{counter_is}
use Rattle.rly_journal_index.proofs.index.Index.live_in.Goals as goal

pub offset_bounds-live-segment : goal.offset_bounds-live-segment
offset_bounds-live-segment c =
    omega (arith, c.requires, ap (λ (v : IndexState). v.geometry.segments) c.self.view_is, c.self.invariant.holds.layout.segments.1)

pub returns : goal.returns
returns c =
    let x = c.self.inside in
    let below : c.args.segment < x.geometry.segments = omega (arith, c.requires, ap (λ (v : IndexState). v.geometry.segments) c.self.view_is) in
    counter_is x.geometry x.machine.state x.live c.args.segment c.self.invariant.live below
    ∙ ap (λ (v : IndexState). live_in v.geometry c.args.segment v.spool.state) c.self.view_is
