use Rattle.std.proofs.Common.{◌≡◌, ◌-◌, ◌^◌}
use Rattle.std.specs.Io.KnownBytes.{prepend_known}
use Rattle.std.specs.String.{string_bytes}
use Rattle.rly_daemon_lines.specs.HelpersOutflow.{outflow_of}
use Rattle.rly_daemon_lines.specs.HelpersPlay.{IsEmptyBatch, PlaysSome}
use Rattle.rly_daemon_lines.proofs.play_command.play_lines.Given as goal

abbrev pub invariant-rounds : goal.invariant-rounds
invariant-rounds g l =
    IsEmptyBatch l.round
    × PlaysSome l.fn.round.most g.D.Disk.state l.fn.journal l.journal
    (prepend_known l.fn.lines.ahead (g.R.Read.remaining l.fn.reader)) (prepend_known l.lines.ahead (g.R.Read.remaining l.reader))
    (outflow_of (g.W.Write.contents l.fn.writer) (string_bytes l.fn.text)) (outflow_of (g.W.Write.contents l.writer) (string_bytes l.text))
    × (l.round.most ≡ l.fn.round.most)

abbrev pub decreases-rounds : goal.decreases-rounds
decreases-rounds g l = 2 ^ 64 - l.lines.taken
