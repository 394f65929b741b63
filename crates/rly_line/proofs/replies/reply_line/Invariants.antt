use Rattle.rly_line.proofs.replies.reply_line.Given as goal

abbrev pub ghosts-reply_line_of : goal.ghosts-reply_line_of
ghosts-reply_line_of a = record { seat = a.seat }
