use Rattle.std.proofs.Common.{arith, ℕ}
use Rattle.std.proofs.lemmas.List.{drop-replicate}
use Rattle.std.proofs.lemmas.Grind.{common_steps}
use Rattle.rly_link_auth.proofs.hmac.padded_block.Goals as goal

pub returns : goal.returns
returns c = grind (arith, common_steps, drop-replicate {X = ℕ})
