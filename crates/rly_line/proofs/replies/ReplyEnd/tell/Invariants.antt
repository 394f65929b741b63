use Rattle.rly_line.proofs.replies.ReplyEnd.tell.Given as goal

abbrev pub ghosts-tell_as : goal.ghosts-tell_as
ghosts-tell_as g a = record { start = a.story.now.start; history = a.story.now.history }
