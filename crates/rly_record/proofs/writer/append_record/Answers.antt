use Rattle.std.proofs.Common.{List, ℕ, ◌++◌, ap, refl, sym, ◌∙◌}
use Rattle.rly_machine.specs.declared.command.Command.{Command}
use Rattle.rly_machine.specs.declared.command.Command.TheVariants.{Take}
use Rattle.rly_record.specs.Spelling.{record_of}
use Rattle.rly_record.proofs.Records.{take_written}
use Rattle.rly_record.proofs.writer.append_record.Goals as goal

pub returns-in-Take-clause-items : goal.returns-in-Take-clause-items
returns-in-Take-clause-items c =
    let old : List ℕ = c.args.out.now.items in
    let payload : List ℕ = c.as_slice-payload.result.now in
    let command : Command (List ℕ) = Take c.in-Take.peer c.in-Take.number c.in-Take.hop c.in-Take.stamp c.in-Take.limit payload in
    let written = take_written command payload c.take_front.result old c.append.new.out.items c.append-in-Take.new.out.items
    (c.take_front.ensures.record payload refl) c.append.ensures.items c.append-in-Take.ensures.items in
    written
    ∙ ap (λ (bytes : List ℕ). old ++ record_of (Take c.in-Take.peer c.in-Take.number c.in-Take.hop c.in-Take.stamp c.in-Take.limit bytes)) c.as_slice-payload.ensures
    ∙ ap (λ (command : Command (List ℕ)). old ++ record_of command) (sym c.in-Take.is)
