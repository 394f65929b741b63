use Rattle.rly_line.specs.EndViews.{TellTheSame}
use Rattle.rly_line.proofs.line_end.close_all.Given as goal

-- their histories are unchanged
abbrev pub invariant-loop-place : goal.invariant-loop-place
invariant-loop-place g l = TellTheSame l.lines l.fn.lines
