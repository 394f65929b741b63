use Rattle.rly_daemon_lines.proofs.HexDigits.{IsFilled}
use Rattle.rly_daemon_lines.proofs.bytes.decode_hexadecimal.Given as goal

abbrev pub invariant-loop-i : goal.invariant-loop-i
invariant-loop-i l = IsFilled l.text l.bytes l.i
