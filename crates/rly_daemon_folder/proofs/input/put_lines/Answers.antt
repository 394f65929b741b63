use Rattle.std.specs.Io.KnownBytes.{prepend_known}
use Rattle.rly_daemon_folder.proofs.Inputs.{lines_err, more_lines}
use Rattle.rly_daemon_folder.proofs.input.put_lines.Goals as goal

pub returns-in_err-put_line-clause-stops : goal.returns-in_err-put_line-clause-stops
returns-in_err-put_line-clause-stops g c = lines_err g.F.Folder.state c.args.limit c.args.destination (g.R.Read.remaining c.args.reader.now)
    (prepend_known c.lines.lines.ahead (g.R.Read.remaining c.lines.reader)) c.in_err-put_line.field-0.0 c.from_residual-in_err-put_line.result _ _ _
    c.lines.invariant c.from_residual-in_err-put_line.ensures.1 c.in_err-put_line.ensures.stops

pub lines-preserved : goal.lines-preserved
lines-preserved g c = more_lines g.F.Folder.state c.args.limit c.args.destination (g.R.Read.remaining c.args.reader.now)
    (prepend_known c.lines.lines.ahead (g.R.Read.remaining c.lines.reader)) (prepend_known c.put_line.new.lines.ahead (g.R.Read.remaining c.put_line.new.reader))
    _ _ _ c.lines.invariant (rw c.if-branch.true at c.in_ok-put_line.ensures.puts)
