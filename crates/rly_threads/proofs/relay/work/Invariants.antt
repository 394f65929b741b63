use Rattle.std.proofs.Common.{Some}
use Rattle.rly_threads.proofs.relay.work.Given as goal

-- the first ticks of its clock, whether it is endless, its seat at first, and the lock of the stop flag
abbrev pub ghosts-work_as : goal.ghosts-work_as
ghosts-work_as g a = record { first = g.T.Turn.told a.post.turn; endless = g.T.Turn.endless a.post.turn; seat = Some a.seat; lock = a.stop_flag.now.id }
