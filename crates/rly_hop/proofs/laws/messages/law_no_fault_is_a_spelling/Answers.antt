use Rattle.std.proofs.Common.{arith}
use Rattle.rly_hop.proofs.Messages.{faultless-spelled, spelled-faultless}
use Rattle.rly_hop.proofs.laws.messages.law_no_fault_is_a_spelling.Goals as goal

pub returns-clause-spelled : goal.returns-clause-spelled
returns-clause-spelled c none = faultless-spelled c.args.bytes.now (λ i. omega (arith, c.type_inv.bytes i)) none

pub returns-clause-faultless : goal.returns-clause-faultless
returns-clause-faultless c m fits same = spelled-faultless c.args.bytes.now m fits same
