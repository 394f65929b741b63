use Rattle.std.proofs.Common.{refl, sym, ◌∙◌}
use Rattle.rly_link_folder.proofs.Numbers.{goes_on, is_apart}
use Rattle.rly_link_folder.proofs.inbox_calls.joined_to.Goals as goal

pub returns-then-goes_on-clause-goes_on : goal.returns-then-goes_on-clause-goes_on
returns-then-goes_on-clause-goes_on c = goes_on _ _ _ (sym c.is_empty.ensures ∙ c.if-is_empty.false) c.last_number-greatest.ensures
    (sym c.goes_on.ensures.test ∙ c.if-goes_on.true)

pub returns-else-goes_on-clause-goes_on : goal.returns-else-goes_on-clause-goes_on
returns-else-goes_on-clause-goes_on c = is_apart _ _ _ _ (sym c.is_empty.ensures ∙ c.if-is_empty.false) refl c.last_number-greatest.ensures
    (sym c.goes_on.ensures.test ∙ c.if-goes_on.false)
