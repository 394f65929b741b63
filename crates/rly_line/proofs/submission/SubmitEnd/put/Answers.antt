use Rattle.std.proofs.Common.{ap, sym, ◌∙◌, length, arith}
use Rattle.rly_line.specs.HelpersEnds.{Putter}
use Rattle.rly_line.proofs.Submitting.{puts}
use Rattle.rly_line.proofs.submission.SubmitEnd.put.Goals as goal

pub send_as-requires-clause-rule : goal.send_as-requires-clause-rule
send_as-requires-clause-rule g c =
    let was = sym c.self.view_is in (
      puts _ _ _ _ c.self.invariant.1 (c.requires.seat ∙ ap (λ (p : Putter). p.seat) was) (c.requires.before ∙ ap (λ (p : Putter). length p.put) was)
          (omega (arith, c.len-count.ensures.count, c.len-count.ensures.some.0)),
      λ _ _ _ _. tt,
    )
