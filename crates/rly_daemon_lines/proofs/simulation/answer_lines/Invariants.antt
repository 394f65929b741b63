use Rattle.std.proofs.Common.{◌-◌, ◌^◌}
use Rattle.std.specs.Io.KnownBytes.{prepend_known}
use Rattle.std.specs.String.{string_bytes}
use Rattle.rly_daemon_lines.specs.HelpersOutflow.{outflow_of}
use Rattle.rly_daemon_lines.proofs.Texts.{HasAnswered}
use Rattle.rly_daemon_lines.proofs.simulation.answer_lines.Given as goal

abbrev pub invariant-answers : goal.invariant-answers
invariant-answers g l =
    HasAnswered (prepend_known l.fn.lines.ahead (g.R.Read.remaining l.fn.reader)) (prepend_known l.lines.ahead (g.R.Read.remaining l.reader))
    (outflow_of (g.W.Write.contents l.fn.writer) (string_bytes l.fn.text)) (outflow_of (g.W.Write.contents l.writer) (string_bytes l.text))
    l.fn.machine.state l.machine.state

abbrev pub decreases-answers : goal.decreases-answers
decreases-answers g l = 2 ^ 64 - l.lines.taken
