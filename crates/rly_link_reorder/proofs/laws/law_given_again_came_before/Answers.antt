use Rattle.rly_link_reorder.specs.ReorderBuffer.{new_reorder}
use Rattle.rly_link_reorder.specs.ReorderRuns.{after_events}
use Rattle.rly_link_reorder.proofs.Came.{due_uncovered, history, is_due}
use Rattle.rly_link_reorder.proofs.laws.law_given_again_came_before.Goals as goal

pub returns-clause-came : goal.returns-clause-came
returns-clause-came c places longest events room k is =
    (is_due events (after_events (new_reorder places longest) events) room k (history places longest events) is).old.came

pub returns-clause-uncovered : goal.returns-clause-uncovered
returns-clause-uncovered c places longest events room k is =
    let h = history places longest events in
    due_uncovered events (after_events (new_reorder places longest) events) k h (is_due events (after_events (new_reorder places longest) events) room k h is)
