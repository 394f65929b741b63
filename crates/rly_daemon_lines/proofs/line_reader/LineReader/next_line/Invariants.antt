use Rattle.std.proofs.Common.{◌≡◌, ◌-◌, ◌≤◌, ◌<◌, ◌^◌, [], length}
use Rattle.std.specs.Io.KnownBytes.{prepend_known}
use Rattle.rly_daemon_lines.proofs.Pieces.{TakesPart}
use Rattle.rly_daemon_lines.proofs.line_reader.LineReader.next_line.Given as goal

abbrev pub invariant-loop-self : goal.invariant-loop-self
invariant-loop-self g l =
    TakesPart (prepend_known l.fn.self.ahead (g.R.Read.remaining l.fn.reader)) (prepend_known l.self.ahead (g.R.Read.remaining l.reader)) l.self.line
    × (l.self.ahead ≡ [])
    × (l.fn.self.taken ≤ l.self.taken)
    × (0 < length l.self.line → l.fn.self.taken < l.self.taken)
    × (l.self.taken < 2 ^ 64)

abbrev pub decreases-loop-self : goal.decreases-loop-self
decreases-loop-self g l = 2 ^ 64 - l.self.taken
