use Rattle.std.proofs.Common.{◌∙◌}
use Rattle.rly_plan_syntax.proofs.DraftLemmas.{no_pair}
use Rattle.rly_plan_syntax.proofs.draft.read_contact.Goals as goal

pub returns-then-len-ne2 : goal.returns-then-len-ne2
returns-then-len-ne2 c = record {
  contact = rw (← c.in-Some.ensures) (no_pair c.in-Some.pair.now.items (λ e. c.if-len-ne2.true (c.len.ensures ∙ (c.in-Some.pair.now.ok.0 ∙ e))));
}
