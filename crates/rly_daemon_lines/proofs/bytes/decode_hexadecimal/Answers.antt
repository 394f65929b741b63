use Rattle.std.proofs.Common.{◌*◌, ◌+◌, arith}
use Rattle.rly_daemon_lines.proofs.HexDigits.{digit_at, filled_all, filled_more}
use Rattle.rly_daemon_lines.proofs.bytes.decode_hexadecimal.Goals as goal

pub byte_of-requires-clause-high : goal.byte_of-requires-clause-high
byte_of-requires-clause-high c = digit_at c.args.text.now (2 * c.loop-i.i) c.requires.spelled (omega (arith, c.requires.room, c.loop-i-test.true))

pub byte_of-requires-clause-low : goal.byte_of-requires-clause-low
byte_of-requires-clause-low c = digit_at c.args.text.now (2 * c.loop-i.i + 1) c.requires.spelled (omega (arith, c.requires.room, c.loop-i-test.true))

pub loop-i-preserved : goal.loop-i-preserved
loop-i-preserved c =
    filled_more c.args.text.now c.loop-i.bytes c.loop-i.i c.byte_of.result
    (omega (arith, c.requires.room, c.loop-i-test.true)) (omega (arith, c.loop-i.auto.bytes, c.loop-i-test.true))
    c.byte_of.ensures c.loop-i.invariant

pub returns : goal.returns
returns c =
    filled_all c.args.text.now c.loop-i.bytes c.loop-i.i c.requires.spelled
    (omega (arith, c.loop-i.auto.bytes, c.loop-i-test.false)) (omega (arith, c.requires.room, c.loop-i-test.false)) c.loop-i.invariant
