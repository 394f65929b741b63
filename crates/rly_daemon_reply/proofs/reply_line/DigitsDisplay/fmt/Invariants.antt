use Rattle.std.proofs.Common.{◌≡◌, ◌++◌, ℕ, List}
use Rattle.std.specs.Fmt.{HasWritten, IsPlainFormatter}
use Rattle.hex.specs.Hex.{encode_lower}
use Rattle.rly_daemon_reply.proofs.reply_line.DigitsDisplay.fmt.Given as goal

abbrev pub invariant-loop-piece : goal.invariant-loop-piece
invariant-loop-piece g l =
    (l.piece-iterator.size ≡ 64)
    × (front : List ℕ) × (front ++ l.piece-iterator.rest.now ≡ l.self.bytes.now)
    × (IsPlainFormatter l.initial.f → HasWritten g.W.Write.write_str_gives l.initial.f (encode_lower front) l.f)
