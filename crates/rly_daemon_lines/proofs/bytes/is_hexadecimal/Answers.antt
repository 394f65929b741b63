use Rattle.rly_daemon_lines.proofs.HexDigits.{decodes}
use Rattle.rly_daemon_lines.proofs.bytes.is_hexadecimal.Goals as goal

pub returns-then-text-eq0 : goal.returns-then-text-eq0
returns-then-text-eq0 c = decodes c.args.text.now c.has_hex_digits_alone.result c.if-text-eq0.true c.has_hex_digits_alone.ensures
