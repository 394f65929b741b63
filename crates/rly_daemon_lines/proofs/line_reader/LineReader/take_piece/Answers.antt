use Rattle.std.proofs.Common.{◌≡◌, ◌≤◌, ◌==◌, ◌++◌, length, take, slice_range, Some, None, arith, vec_len}
use Rattle.std.specs.List.{position}
use Rattle.rly_daemon_lines.specs.HelpersLineReader.{line_front}
use Rattle.rly_daemon_lines.proofs.Newlines.{piece_ended, piece_open}
use Rattle.rly_daemon_lines.proofs.line_reader.LineReader.take_piece.Goals as goal

pub returns-in-Some : goal.returns-in-Some
returns-in-Some c =
    let size : vec_len c.self.inside.chunk ≡ length c.self.inside.chunk.items = c.self.inside.chunk.ok.0 in
    let within : c.self.inside.end ≤ length c.self.inside.chunk.items = omega (arith, size, c.self.invariant.within) in
    let place : position (λ y. y == 10) (slice_range c.self.inside.chunk.items c.self.inside.at c.self.inside.end) ≡ Some c.in-Some.count = cc (c.in-Some.ensures.place) in
    let kept : c.keep.new.line.items ≡ line_front (c.self.inside.line.items ++ take c.in-Some.count (slice_range c.self.inside.chunk.items c.self.inside.at c.self.inside.end)) = cc (c.keep.ensures.line) in
    rw (← c.self.view_is)
    (piece_ended c.self.inside.chunk.items c.self.inside.line.items c.keep.new.line.items c.self.inside.at c.self.inside.end c.self.inside.total c.in-Some.count
    c.self.invariant.front within c.self.invariant.counted c.self.invariant.bounded place kept)

pub returns-in-None : goal.returns-in-None
returns-in-None c =
    let size : vec_len c.self.inside.chunk ≡ length c.self.inside.chunk.items = c.self.inside.chunk.ok.0 in
    let within : c.self.inside.end ≤ length c.self.inside.chunk.items = omega (arith, size, c.self.invariant.within) in
    let place : position (λ y. y == 10) (slice_range c.self.inside.chunk.items c.self.inside.at c.self.inside.end) ≡ None = cc (c.in-None.ensures.place) in
    let kept : c.keep-in-None.new.line.items ≡ line_front (c.self.inside.line.items ++ slice_range c.self.inside.chunk.items c.self.inside.at c.self.inside.end) = cc (c.keep-in-None.ensures.line) in
    rw (← c.self.view_is)
    (piece_open c.self.inside.chunk.items c.self.inside.line.items c.keep-in-None.new.line.items c.self.inside.at c.self.inside.end c.self.inside.total
    c.self.invariant.front within c.self.invariant.counted c.self.invariant.bounded place kept)
