use Rattle.std.proofs.Common.{ℕ, ap, sym, ◌∙◌}
use Rattle.rly_hop.specs.MessageReads.{message_at}
use Rattle.rly_hop.proofs.reader.message_of.Goals as goal

pub fields_of-requires-clause-fixed : goal.fields_of-requires-clause-fixed
fields_of-requires-clause-fixed c = c.in_ok-header.ensures.fixed

pub fields_of-requires-clause-from : goal.fields_of-requires-clause-from
fields_of-requires-clause-from c = c.in_ok-header.ensures.from

pub fields_of-requires-clause-to : goal.fields_of-requires-clause-to
fields_of-requires-clause-to c = c.in_ok-header.ensures.to

pub returns-clause-fields : goal.returns-clause-fields
returns-clause-fields c = c.fields_of.ensures ∙ ap (λ (k : ℕ). message_at k c.args.bytes.now) (sym c.in_ok-header.ensures.kind)
