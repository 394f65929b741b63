use Rattle.rly_journal.proofs.Common.{ap, ◌∙◌}
use Rattle.rly_journal.proofs.Outcomes.{command_outcome}
use Rattle.rly_journal.proofs.evaluation.evaluate_call.Goals as goal

pub returns-in-Command-clause-outcome : goal.returns-in-Command-clause-outcome
returns-in-Command-clause-outcome c = λ t alike.
    command_outcome c.args.call c.in-Command.is c.answer_command-reply.ensures.taken (c.seq-position.ensures ∙ ap (λ m. m.state.seq) c.machine.ensures)
    t alike (c.answer_command-reply.ensures.told t alike)
