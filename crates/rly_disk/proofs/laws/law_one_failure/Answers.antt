use Rattle.rly_disk.proofs.Common.{arith, false}
use Rattle.rly_disk.proofs.Making.{row_counts, row_of}
use Rattle.rly_disk.proofs.laws.law_one_failure.Goals as goal

pub returns : goal.returns
returns c calls events spent sound cut = omega (arith, (row_counts (row_of false spent calls events cut)).1)
