use Rattle.std.proofs.Common.{List, subst, sym}
use Rattle.rly_machine.specs.declared.call.Call.{Call}
use Rattle.rly_line.specs.ResponderView.{ResponderView, calls_in}
use Rattle.rly_line.specs.Submission.{IsBeginning}
use Rattle.rly_flush.specs.HelpersFlusher.{IsFlushing}
use Rattle.rly_line.specs.Batches.{calls_put}
use Rattle.rly_flush.specs.FlusherHistory.{FlusherState}
use Rattle.rly_flush.proofs.Answering.{shorter}
use Rattle.rly_flush.proofs.flusher.Flusher.law_beginning.Goals as goal

pub invariant_of-self : goal.invariant_of-self
invariant_of-self g c = (
  subst (λ (l : ResponderView). IsFlushing g.D.Disk.state (record { first = c.self.inside.first.value.journal; journal = c.self.inside.owned.journal; kept = c.self.inside.kept; line = l }))
      (sym c.law_beginning.ensures.same.0) c.self.invariant.0,
  c.self.invariant.1,
)

pub returns-clause-begins : goal.returns-clause-begins
returns-clause-begins g c =
    subst (λ (f : FlusherState g.row.D.Denot). IsBeginning c.args.seat.seat.0 (calls_in f.line.history) c.args.seat.put) c.self.view_is
    (shorter c.args.seat.seat.0 (calls_in c.self.inside.line.history) (calls_put c.self.inside.kept) c.args.seat.put
    (subst (λ (l : List Call). IsBeginning c.args.seat.seat.0 l c.args.seat.put) (sym c.self.invariant.0.answered) c.law_beginning.ensures.begins))
