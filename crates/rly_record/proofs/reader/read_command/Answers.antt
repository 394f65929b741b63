use Rattle.std.proofs.Common.{◌++◌, ap, ◌∙◌, arith}
use Rattle.std.proofs.lemmas.Result.{err_from_is_err_and}
use Rattle.rly_record.specs.Spelling.{record_of}
use Rattle.rly_record.specs.HelpersReader.{command_at, command_bytes}
use Rattle.rly_record.proofs.Fields.{IsBytes}
use Rattle.rly_record.proofs.Records.{behind_front, command_again, command_takes, is_refused, kept_found, length-behind, one_reading, bytes_spelled}
use Rattle.rly_record.proofs.reader.read_command.Goals as goal

pub returns-in_err-command-clause-only : goal.returns-in_err-command-clause-only
returns-in_err-command-clause-only c command rest fits same =
    let p = err_from_is_err_and c.from_residual.result c.from_residual.ensures.1 in
    rw (p.1, p.2) (is_refused c.in_err-command.field-0.0 (command_at c.args.bytes.now) (command, rest) c.in_err-command.ensures.gives (ap command_at same ∙ command_again command rest fits))

pub overflow_sub-result : goal.overflow_sub-result
overflow_sub-result c =
    let fits : IsBytes c.args.bytes.now = λ i. omega (arith, c.type_inv.bytes i) in
    let t = command_takes c.args.bytes.now (c.in_ok-command-2.command, c.in_ok-command.rest.now) fits (kept_found c.args.bytes.now (command_bytes c.in_ok-command.command) c.in_ok-command-2.command c.in_ok-command.rest.now c.in_ok-command.ensures.gives c.in_ok-command-2.ensures.kept) in
    length-behind c.args.bytes.now (record_of c.in_ok-command-2.command) c.in_ok-command.rest.now t.0.parts

pub returns-clause-command : goal.returns-clause-command
returns-clause-command c =
    let fits : IsBytes c.args.bytes.now = λ i. omega (arith, c.type_inv.bytes i) in
    (command_takes c.args.bytes.now (c.in_ok-command-2.command, c.in_ok-command.rest.now) fits (kept_found c.args.bytes.now (command_bytes c.in_ok-command.command) c.in_ok-command-2.command c.in_ok-command.rest.now c.in_ok-command.ensures.gives c.in_ok-command-2.ensures.kept)).1

pub returns-clause-found : goal.returns-clause-found
returns-clause-found c =
    let fits : IsBytes c.args.bytes.now = λ i. omega (arith, c.type_inv.bytes i) in
    let t = command_takes c.args.bytes.now (c.in_ok-command-2.command, c.in_ok-command.rest.now) fits (kept_found c.args.bytes.now (command_bytes c.in_ok-command.command) c.in_ok-command-2.command c.in_ok-command.rest.now c.in_ok-command.ensures.gives c.in_ok-command-2.ensures.kept) in
    (behind_front c.args.bytes.now (record_of c.in_ok-command-2.command) c.in_ok-command.rest.now t.0.parts).0

pub returns-clause-length : goal.returns-clause-length
returns-clause-length c =
    let fits : IsBytes c.args.bytes.now = λ i. omega (arith, c.type_inv.bytes i) in
    let t = command_takes c.args.bytes.now (c.in_ok-command-2.command, c.in_ok-command.rest.now) fits (kept_found c.args.bytes.now (command_bytes c.in_ok-command.command) c.in_ok-command-2.command c.in_ok-command.rest.now c.in_ok-command.ensures.gives c.in_ok-command-2.ensures.kept) in
    (behind_front c.args.bytes.now (record_of c.in_ok-command-2.command) c.in_ok-command.rest.now t.0.parts).1

pub returns-clause-only : goal.returns-clause-only
returns-clause-only c command rest fits same =
    (one_reading command_at c.args.bytes.now (record_of command ++ rest) c.in_ok-command-2.command command c.in_ok-command.rest.now rest same (kept_found c.args.bytes.now (command_bytes c.in_ok-command.command) c.in_ok-command-2.command c.in_ok-command.rest.now c.in_ok-command.ensures.gives c.in_ok-command-2.ensures.kept) (command_again command rest fits)).0

pub returns-in_err-command-2-clause-memory : goal.returns-in_err-command-2-clause-memory
returns-in_err-command-2-clause-memory c refused =
    bytes_spelled c.args.bytes.now (command_bytes c.in_ok-command.command, c.in_ok-command.rest.now) (λ i. omega (arith, c.type_inv.bytes i)) c.in_ok-command.ensures.gives c.in_err-command-2.ensures.memory
