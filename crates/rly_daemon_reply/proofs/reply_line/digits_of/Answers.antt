use Rattle.rly_daemon_reply.proofs.Digits.{digits_text, never_error}
use Rattle.rly_daemon_reply.proofs.reply_line.digits_of.Goals as goal

pub unwrap-requires-2 : goal.unwrap-requires-2
unwrap-requires-2 c =
    let written = rw c.unwrap.ensures at c.encode_to_slice.ensures.written in
    never_error c.from_utf8.result _ _ _ c.from_utf8.ensures.cases (rw written (digits_text c.args.bytes.now))
