use Rattle.std.proofs.Common.{◌≡◌, ◌+◌, ◌-◌, length, arith, true, vec_len}
use Rattle.std.specs.Result.{is_ok}
use Rattle.std.proofs.lemmas.List.{length-take}
use Rattle.rly_daemon_lines.proofs.Newlines.{kept_more}
use Rattle.rly_daemon_lines.proofs.line_reader.keep.Goals as goal

pub returns-clause-line : goal.returns-clause-line
returns-clause-line c =
    let size : vec_len c.args.line.now ≡ length c.args.line.now.items = c.args.line.now.ok.0 in
    let whole : length c.args.line.now.items + (20481 - c.len.result) ≡ 20481 = omega (arith, size, c.len.ensures, c.requires.short) in
    let done : is_ok c.extend_from_slice-kept.result ≡ true =
    c.extend_from_slice-kept.ensures.succeeds (omega (arith, c.len.ensures, c.requires.short, c.requires.room, c.min-count.ensures, length-take c.min-count.result c.args.piece.now)) in
    let extended = rw done at c.extend_from_slice-kept.ensures.items in
    rw (extended, c.min-count.ensures) (kept_more c.args.line.now.items c.args.piece.now (20481 - c.len.result) whole)
