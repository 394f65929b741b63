use Rattle.std.proofs.Common.{arith}
use Rattle.rly_record.proofs.Records.{limited_front, plain_front}
use Rattle.rly_record.proofs.writer.take_front.Goals as goal

pub returns-then-limit-eq0-clause-record : goal.returns-then-limit-eq0-clause-record
returns-then-limit-eq0-clause-record c payload long =
    plain_front c.args.peer c.args.number c.args.hop c.args.stamp c.args.limit c.args.size payload c.take_fields.result (omega (arith, c.if-limit-eq0.true)) long
    c.take_fields.ensures.fields

pub returns-clause-record : goal.returns-clause-record
returns-clause-record c payload long =
    limited_front c.args.peer c.args.number c.args.hop c.args.stamp c.args.limit c.args.size payload c.limited_fields.result (omega (arith, c.if-limit-eq0.false)) long
    c.limited_fields.ensures
