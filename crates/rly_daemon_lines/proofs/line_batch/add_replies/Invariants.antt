use Rattle.std.proofs.Common.{drop}
use Rattle.std.specs.String.{string_bytes}
use Rattle.rly_daemon_lines.specs.HelpersOutflow.{outflow_of}
use Rattle.rly_daemon_lines.proofs.Rounds.{ToldSoFar}
use Rattle.rly_daemon_lines.proofs.line_batch.add_replies.Given as goal

abbrev pub invariant-loop-slot : goal.invariant-loop-slot
invariant-loop-slot g l =
    ToldSoFar (outflow_of (g.W.Write.contents l.fn.writer) (string_bytes l.fn.text)) (outflow_of (g.W.Write.contents l.writer) (string_bytes l.text))
    l.fn.slots l.fn.answers (drop l.slot-index l.slots) l.rest
