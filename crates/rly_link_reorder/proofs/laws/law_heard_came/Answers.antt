use Rattle.std.proofs.Common.{◌∙◌, sym}
use Rattle.rly_link_reorder.specs.ReorderBuffer.{new_reorder}
use Rattle.rly_link_reorder.specs.ReorderRuns.{after_events}
use Rattle.rly_link_reorder.proofs.Came.{history}
use Rattle.rly_link_reorder.proofs.Marked.{heard-came, marks-heard}
use Rattle.rly_link_reorder.proofs.laws.law_heard_came.Goals as goal

pub returns-clause-bits : goal.returns-clause-bits
returns-clause-bits c e place below = marks-heard e place below

pub returns-clause-came : goal.returns-clause-came
returns-clause-came c places longest events place below marked =
    let e = after_events (new_reorder places longest) events in
    heard-came events e place (history places longest events) (sym (marks-heard e place below) ∙ marked)
