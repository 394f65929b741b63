use Rattle.rly_flush.specs.FlusherHistory.{IsContinued, MayFollow}
use Rattle.rly_flush.specs.RoundWatch.{HasWatched}
use Rattle.rly_flush.proofs.flusher.Flusher.serve.Given as goal

-- rounds were made, another may follow, and the watch was shown them
abbrev pub invariant-loop-count : goal.invariant-loop-count
invariant-loop-count g l = (so_far : IsContinued g.D.Disk.state l.fn.self l.flusher) × MayFollow l.flusher so_far.rounds
    × HasWatched (g.W.RoundWatch.shown l.fn.watch) (g.W.RoundWatch.shown l.watch) l.fn.self l.flusher
