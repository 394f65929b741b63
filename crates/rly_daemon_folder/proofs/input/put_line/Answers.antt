use Rattle.std.proofs.Common.{ap, ◌++◌, ◌∙◌}
use Rattle.std.specs.Io.KnownBytes.{prepend_known}
use Rattle.rly_daemon_folder.specs.Input.{front_of}
use Rattle.rly_daemon_folder.proofs.Inputs.{line_put, line_stops}
use Rattle.rly_daemon_folder.proofs.input.put_line.Goals as goal

pub returns-in_err-put_file-clause-stops : goal.returns-in_err-put_file-clause-stops
returns-in_err-put_file-clause-stops g c = line_stops g.F.Folder.state c.args.limit c.args.destination (prepend_known c.args.lines.now.ahead (g.R.Read.remaining c.args.reader.now))
    (prepend_known c.next_line.new.self.ahead (g.R.Read.remaining c.next_line.new.reader)) c.next_line.new.self.line c.deref.result.now c.in_err-put_file.field-0.0
    c.from_residual-in_err-put_file.result _ _ (rw c.in-Ok-true.field-0-test at c.in-Ok-true.ensures.line)
    (c.deref.ensures.value ∙ c.in_ok-file.ensures ∙ ap (λ l. front_of c.args.destination ++ l) c.line.ensures) c.from_residual-in_err-put_file.ensures.1 c.in_err-put_file.ensures.stops

pub returns-clause-puts : goal.returns-clause-puts
returns-clause-puts g c = line_put g.F.Folder.state c.args.limit c.args.destination (prepend_known c.args.lines.now.ahead (g.R.Read.remaining c.args.reader.now))
    (prepend_known c.next_line.new.self.ahead (g.R.Read.remaining c.next_line.new.reader)) c.next_line.new.self.line c.deref.result.now _ _
    (rw c.in-Ok-true.field-0-test at c.in-Ok-true.ensures.line)
    (c.deref.ensures.value ∙ c.in_ok-file.ensures ∙ ap (λ l. front_of c.args.destination ++ l) c.line.ensures) c.in_ok-put_file.ensures.puts
