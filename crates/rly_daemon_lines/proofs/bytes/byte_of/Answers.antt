use Rattle.std.proofs.Common.{rules}
use Rattle.rly_daemon_lines.proofs.HexDigits.{byte_of_digits}
use Rattle.rly_daemon_lines.proofs.bytes.byte_of.Goals as goal

pub overflow_cast-result : goal.overflow_cast-result
overflow_cast-result c =
    let small = (byte_of_digits c.args.high c.args.low c.requires.high c.requires.low).0 in
    rw (c.from_le_bytes-digits.ensures) (search rules)

pub returns : goal.returns
returns c = rw (c.from_le_bytes-digits.ensures) ((byte_of_digits c.args.high c.args.low c.requires.high c.requires.low).1)
