use Rattle.std.proofs.Common.{None, subst, sym}
use Rattle.rly_flush.specs.HelpersFlusher.{IsFlushing}
use Rattle.rly_flush.specs.FlusherHistory.{IsOneHistory}
use Rattle.rly_flush.proofs.Crashing.{at_first, one_history}
use Rattle.rly_flush.proofs.flusher.Flusher.new.Goals as goal

pub invariant_of-result : goal.invariant_of-result
invariant_of-result g c = (
  subst (λ s. IsFlushing g.D.Disk.state (record { first = s.journal; journal = c.args.journal; kept = None; line = c.new-line.result })) (sym c.of-first.ensures)
      (at_first g.D.Disk.state g.met.D.Disk.consistent c.args.journal c.args.line_end.of c.new-line.result c.args.line_end.lines c.args.line_end.over c.new-line.ensures.same c.new-line.ensures.holds c.law_counted.ensures c.law_durable.ensures),
  c.in-Ok.ensures,
)

pub returns-clause-history : goal.returns-clause-history
returns-clause-history g c =
    subst (λ s. IsOneHistory g.D.Disk.state (record { first = s.journal; journal = c.args.journal; kept = None; line = c.new-line.result })) (sym c.of-first.ensures)
    (one_history g.D.Disk.state g.met.D.Disk.consistent (record { first = c.args.journal; journal = c.args.journal; kept = None; line = c.new-line.result })
    (at_first g.D.Disk.state g.met.D.Disk.consistent c.args.journal c.args.line_end.of c.new-line.result c.args.line_end.lines c.args.line_end.over c.new-line.ensures.same c.new-line.ensures.holds c.law_counted.ensures c.law_durable.ensures))
