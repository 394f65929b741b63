use Rattle.rly_station.proofs.LinesApart.{lines_apart}
use Rattle.rly_station.proofs.kind_count.KindCount.law_lines_are_apart.Goals as goal

pub returns : goal.returns
returns c moments = lines_apart moments
