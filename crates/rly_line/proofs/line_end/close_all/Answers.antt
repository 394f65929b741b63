use Rattle.std.proofs.Common.{◌∙◌}
use Rattle.rly_line.specs.EndViews.{with_gone}
use Rattle.rly_line.proofs.ReplyHistories.{map_set}
use Rattle.rly_line.proofs.line_end.close_all.Goals as goal

pub loop-place-preserved : goal.loop-place-preserved
loop-place-preserved g c =
    map_set with_gone c.loop-place.lines c.loop-place.place c.close.new.self _ c.close.ensures ∙ c.loop-place.invariant
