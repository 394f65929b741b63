use Rattle.std.proofs.Common.{arith}
use Rattle.rly_hop.proofs.Messages.{found-spelled, reading-of, spelled-found}
use Rattle.rly_hop.proofs.reader.read_message.Goals as goal

pub returns-clause-found : goal.returns-clause-found
returns-clause-found c = found-spelled c.args.bytes.now c.message_of.result (λ i. omega (arith, c.type_inv.bytes i)) (reading-of c.args.bytes.now c.message_of.result c.message_of.ensures.fault c.message_of.ensures.fields)

pub returns-clause-only : goal.returns-clause-only
returns-clause-only c m fits same = spelled-found c.args.bytes.now c.message_of.result m fits same (reading-of c.args.bytes.now c.message_of.result c.message_of.ensures.fault c.message_of.ensures.fields)
