use Rattle.std.proofs.Common.{◌≡◌, ◌==◌, length, arith, sym, ◌∙◌, ap, refl}
use Rattle.rly_daemon_lines.proofs.Pieces.{line_begun, line_more, line_last, part_more}
use Rattle.rly_daemon_lines.proofs.line_reader.LineReader.next_line.Goals as goal

pub returns-then-take_piece-clause-line : goal.returns-then-take_piece-clause-line
returns-then-take_piece-clause-line g c =
    let piece = rw (c.if-take_piece.true, c.forget_line.ensures) at c.take_piece.ensures in
    line_begun c.args.self.now c.take_piece.new.self (g.R.Read.remaining c.args.reader.now) piece

pub returns-then-take_piece-2-clause-line : goal.returns-then-take_piece-2-clause-line
returns-then-take_piece-2-clause-line g c =
    let piece = rw c.if-take_piece-2.true at c.take_piece-in-loop-self.ensures in
    let filled = rw c.if-branch.true at c.in_ok-fill.ensures.filled in
    line_more _ c.loop-self.self c.fill.new.self c.take_piece-in-loop-self.new.self (g.R.Read.remaining c.loop-self.reader) (g.R.Read.remaining c.fill.new.reader)
    c.loop-self.invariant.0 c.loop-self.invariant.1 filled c.in_ok-fill.ensures.bytes piece

pub loop-self-preserved : goal.loop-self-preserved
loop-self-preserved g c =
    let piece = rw c.if-take_piece-2.false at c.take_piece-in-loop-self.ensures in
    let filled = rw c.if-branch.true at c.in_ok-fill.ensures.filled in (
      part_more _ c.loop-self.self c.fill.new.self c.take_piece-in-loop-self.new.self (g.R.Read.remaining c.loop-self.reader) (g.R.Read.remaining c.fill.new.reader)
          c.loop-self.invariant.0 c.loop-self.invariant.1 filled c.in_ok-fill.ensures.bytes piece,
      piece.1,
      omega (arith, piece.3, filled.1, c.loop-self.invariant.2),
      λ some. omega (arith, piece.3, filled.1, filled.2, c.loop-self.invariant.2),
      piece.4,
    )

pub returns-clause-line : goal.returns-clause-line
returns-clause-line g c =
    let filled = rw c.if-branch.false at c.in_ok-fill.ensures.filled in
    let empty_line : (length c.fill.new.self.line == 0) ≡ c.is_empty.result = sym (c.is_empty.ensures ∙ ap (λ xs. length xs == 0) c.line.ensures) in
    line_last _ c.loop-self.self c.fill.new.self (g.R.Read.remaining c.loop-self.reader) (g.R.Read.remaining c.fill.new.reader) c.is_empty.result
    c.loop-self.invariant.0 c.loop-self.invariant.1 filled c.in_ok-fill.ensures.bytes (c.in_ok-fill.ensures.end (rw c.if-branch.false refl)) empty_line
