use Rattle.std.proofs.Common.{◌≡◌, ◌≤◌, ◌<◌, ◌-◌, ◌^◌, [], length}
use Rattle.std.specs.Io.KnownBytes.{prepend_known}
use Rattle.std.specs.String.{string_bytes}
use Rattle.rly_daemon_lines.specs.HelpersOutflow.{Adds, outflow_of}
use Rattle.rly_daemon_lines.specs.HelpersPlay.{Gathers, asks_of}
use Rattle.rly_daemon_lines.proofs.line_batch.LineBatch.gather.Given as goal

abbrev pub invariant-loop-self : goal.invariant-loop-self
invariant-loop-self g l =
    Gathers (prepend_known l.fn.lines.ahead (g.R.Read.remaining l.fn.reader)) (prepend_known l.lines.ahead (g.R.Read.remaining l.reader))
    l.self.slots.items (asks_of l.self.calls.items)
    × (length l.self.calls.items ≤ length l.self.slots.items)
    × (length l.self.slots.items ≤ l.self.most)
    × (0 < length l.self.slots.items → (l.fn.lines.taken < l.lines.taken) × (l.lines.taken < 2 ^ 64))
    × (l.fn.lines.taken ≤ l.lines.taken)
    × (l.self.answers ≡ l.fn.self.answers)
    × (l.self.most ≡ l.fn.self.most)
    × Adds (outflow_of (g.W.Write.contents l.fn.writer) (string_bytes l.fn.text)) (outflow_of (g.W.Write.contents l.writer) (string_bytes l.text)) []

abbrev pub decreases-loop-self : goal.decreases-loop-self
decreases-loop-self g l = l.self.most - length l.self.slots.items
