use Rattle.rly_segment.proofs.Common.{geometry_in, rules}
use Rattle.rly_segment.proofs.header.geometry_in.Goals as goal

pub returns : goal.returns
unfolding geometry_in
returns c = search rules
