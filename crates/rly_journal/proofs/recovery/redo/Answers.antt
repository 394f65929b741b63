use Rattle.rly_journal.proofs.Common.{ap, false, placed_at, rules, sym, true, ◌+◌, ◌∙◌, ◌≡◌}
use Rattle.rly_journal.proofs.Redone.{IsStepped, redoing_brought, redoing_next, redoing_refused, stepped}
use Rattle.rly_journal.proofs.recovery.redo.Goals.{After-apply}
use Rattle.rly_journal.proofs.recovery.redo.Goals as goal

-- the outcome of the next command
one : (c : After-apply) → IsStepped c.loop-command.index c.apply.new.self (placed_at c.loop-command.place c.in-Some.command) c.apply.result
    (c.loop-command.place + c.record_len.result)
one c = stepped c.in-Ok.ensures.state c.in-Ok.ensures.at c.placed_at-placed.ensures c.apply.ensures.state c.apply.ensures.reply c.apply.ensures.at

pub apply-requires-clause-brought : goal.apply-requires-clause-brought
apply-requires-clause-brought c = λ _.
    let at = c.in-Ok.ensures.at in
    rw (at.geometry, at.segment, at.used, c.record_len.ensures, c.placed_at-placed.ensures)
    (redoing_brought c.loop-command.invariant.2 c.in-Some.ensures.steps.0 c.law_index-in-loop-command.ensures.holds)

pub returns-then-not-is_accepted : goal.returns-then-not-is_accepted
returns-then-not-is_accepted c =
    let told : c.is_accepted.result ≡ false = search rules in
    redoing_refused c.loop-command.invariant.2 c.in-Some.ensures.steps.0 (one (goal.at.returns-then-not-is_accepted c).After-apply)
    (sym c.is_accepted.ensures ∙ told)

pub loop-command-preserved : goal.loop-command-preserved
loop-command-preserved c =
    let told : c.is_accepted.result ≡ true = search rules in
    let next = redoing_next c.loop-command.invariant.2 c.in-Some.ensures.steps.0 (one (goal.at.loop-command-preserved c).After-apply)
    (sym c.is_accepted.ensures ∙ told) (ap (λ n. c.loop-command.place + n) c.record_len.ensures) in
    (tt, tt, next)
