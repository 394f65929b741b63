use Rattle.std.proofs.Common.{◌≡◌, ◌+◌, length, length-append, ap, arith, ◌∙◌, ◌∷◌, [], Ok}
use Rattle.std.specs.Io.KnownBytes.{prepend_known}
use Rattle.std.specs.String.{string_bytes}
use Rattle.std.proofs.lemmas.Result.{err_from_is_err_and}
use Rattle.rly_daemon_lines.specs.HelpersOutflow.{outflow_of}
use Rattle.rly_daemon_lines.specs.Grammar.{ask_in_line}
use Rattle.rly_daemon_lines.specs.HelpersPlay.{asks_of, subject_in}
use Rattle.rly_daemon_lines.proofs.Gathering.{ends, few_calls, gathers_more}
use Rattle.rly_daemon_lines.proofs.Outflows.{adds_adds, adds_begins}
use Rattle.rly_daemon_lines.proofs.line_batch.LineBatch.gather.Goals as goal

pub returns-then-not-branch-clause-ended : goal.returns-then-not-branch-clause-ended
returns-then-not-branch-clause-ended g c =
    let none = rw c.if-not-branch.true at c.in_ok-take_line.ensures.line in
    λ _. ends (prepend_known c.args.lines.now.ahead (g.R.Read.remaining c.args.reader.now)) (prepend_known c.loop-self.lines.ahead (g.R.Read.remaining c.loop-self.reader))
    (prepend_known c.take_line.new.lines.ahead (g.R.Read.remaining c.take_line.new.reader)) c.take_line.new.lines.line c.loop-self.self.slots.items (asks_of c.loop-self.self.calls.items)
    c.loop-self.invariant.0 none

pub loop-self-preserved : goal.loop-self-preserved
loop-self-preserved g c =
    let line = rw c.if-not-branch.false at c.in_ok-take_line.ensures.line in
    let put = c.in_ok-take_line.ensures.put (ap Ok c.if-not-branch.false) in
    let more = c.in_ok-take_line.ensures.progress (ap Ok c.if-not-branch.false) in
    let count : length c.take_line.new.self.slots.items ≡ length c.loop-self.self.slots.items + 1 =
    ap length put.slots ∙ length-append c.loop-self.self.slots.items (subject_in (ask_in_line c.take_line.new.lines.line) ∷ []) in (
      gathers_more (prepend_known c.args.lines.now.ahead (g.R.Read.remaining c.args.reader.now)) (prepend_known c.loop-self.lines.ahead (g.R.Read.remaining c.loop-self.reader))
          (prepend_known c.take_line.new.lines.ahead (g.R.Read.remaining c.take_line.new.reader)) c.take_line.new.lines.line c.loop-self.self.slots.items c.take_line.new.self.slots.items
          (asks_of c.loop-self.self.calls.items) (asks_of c.take_line.new.self.calls.items) c.loop-self.invariant.0 line put.slots put.asks,
      few_calls c.loop-self.self.calls.items c.take_line.new.self.calls.items c.loop-self.self.slots.items c.take_line.new.self.slots.items (ask_in_line c.take_line.new.lines.line)
          c.loop-self.invariant.1 put.slots put.asks,
      omega (arith, count, c.len.ensures, c.loop-self-test.true, c.in_ok-take_line.ensures.most),
      (λ _. (omega (arith, more.0, c.loop-self.invariant.4), more.1)),
      omega (arith, more.0, c.loop-self.invariant.4),
      c.in_ok-take_line.ensures.answers ∙ c.loop-self.invariant.5,
      c.in_ok-take_line.ensures.most ∙ c.loop-self.invariant.6,
      adds_adds (outflow_of (g.W.Write.contents c.args.writer.now) (string_bytes c.args.text.now)) (outflow_of (g.W.Write.contents c.loop-self.writer) (string_bytes c.loop-self.text))
          (outflow_of (g.W.Write.contents c.take_line.new.writer) (string_bytes c.take_line.new.text)) [] [] c.loop-self.invariant.7 c.in_ok-take_line.ensures.same,
    )

pub returns-in_err-take_line-clause-begun : goal.returns-in_err-take_line-clause-begun
returns-in_err-take_line-clause-begun g c =
    let failed = err_from_is_err_and c.from_residual.result c.from_residual.ensures.1 in
    rw failed.1 (adds_begins (outflow_of (g.W.Write.contents c.args.writer.now) (string_bytes c.args.text.now)) (outflow_of (g.W.Write.contents c.loop-self.writer) (string_bytes c.loop-self.text))
    (outflow_of (g.W.Write.contents c.take_line.new.writer) (string_bytes c.take_line.new.text)) [] [] c.loop-self.invariant.7 c.in_err-take_line.ensures.begun)

pub returns-then-not-branch-clause-same : goal.returns-then-not-branch-clause-same
returns-then-not-branch-clause-same g c =
    adds_adds (outflow_of (g.W.Write.contents c.args.writer.now) (string_bytes c.args.text.now)) (outflow_of (g.W.Write.contents c.loop-self.writer) (string_bytes c.loop-self.text))
    (outflow_of (g.W.Write.contents c.take_line.new.writer) (string_bytes c.take_line.new.text)) [] [] c.loop-self.invariant.7 c.in_ok-take_line.ensures.same
