use Rattle.std.proofs.Common.{rules}
use Rattle.rly_daemon_lines.proofs.Payloads.{take_carries}
use Rattle.rly_daemon_lines.proofs.grammar.take_ask.Goals as goal

-- the payload is read last
pub returns-in_err-payload-clause-memory : goal.returns-in_err-payload-clause-memory
returns-in_err-payload-clause-memory c =
    let carried = take_carries c.args.peer.now c.args.number.now c.args.hop.now c.args.stamp.now c.args.payload.now c.args.limit c.in-Some.peer c.in-Some-parse_number.number
    c.in-Some-parse_hop.hop c.in-Some-parse_number-2.stamp c.in-Some-limit.limit (cc) (cc) (cc) (cc) (cc) c.in_err-payload.ensures.memory in
    search rules
