use Rattle.std.proofs.Common.{take}
use Rattle.std.specs.Fmt.{HasWritten, IsPlainFormatter}
use Rattle.rly_daemon_reply.specs.Replies.{ids_text}
use Rattle.rly_daemon_reply.proofs.reply_line.SpacedIdsDisplay.fmt.Given as goal

abbrev pub invariant-loop-id : goal.invariant-loop-id
invariant-loop-id g l =
    IsPlainFormatter l.initial.f → HasWritten g.W.Write.write_str_gives l.initial.f (ids_text (take l.id-index l.id-items)) l.f
