use Rattle.std.proofs.Common.{arith}
use Rattle.rly_record.proofs.Bodies.{body_has, body_is, body_only, body_spelled}
use Rattle.rly_record.proofs.reader.read_body.Goals as goal

pub returns-clause-commands : goal.returns-clause-commands
returns-clause-commands c = body_has c.args.bytes.now c.body_of_bytes.result (λ i. omega (arith, c.type_inv.bytes i)) c.body_of_bytes.ensures.gives

pub returns-clause-found : goal.returns-clause-found
returns-clause-found c = body_is c.args.bytes.now c.body_of_bytes.result (λ i. omega (arith, c.type_inv.bytes i)) c.body_of_bytes.ensures.gives

pub returns-clause-only : goal.returns-clause-only
returns-clause-only c commands fits same = body_only c.args.bytes.now c.body_of_bytes.result commands fits same c.body_of_bytes.ensures.gives

pub returns-clause-memory : goal.returns-clause-memory
returns-clause-memory c refused = body_spelled c.args.bytes.now (λ i. omega (arith, c.type_inv.bytes i)) (c.body_of_bytes.ensures.memory refused)
