use Rattle.std.proofs.Common.{sym, ◌∙◌}
use Rattle.std.proofs.lemmas.Result.{IfErr-weaker}
use Rattle.rly_plan.proofs.BlankTexts.{with_draft, with_station}
use Rattle.rly_plan.proofs.plan.Plan.read.Goals as goal

pub returns-in-Err-read-clause-memory : goal.returns-in-Err-read-clause-memory
returns-in-Err-read-clause-memory c = λ e. (c.memory.ensures.place, λ blank. with_station _ _ c.in-Ok.ensures.ok c.in-Err-read.ensures.memory blank)

pub returns-clause-memory : goal.returns-clause-memory
returns-clause-memory c =
    IfErr-weaker c.checked_plan.result _ _ (λ y p e. (p e, λ blank. with_draft _ _ _ c.in-Ok.ensures.ok (sym c.in-Ok-Some.ensures.draft ∙ c.in-Ok-Some.field-0-is) blank)) c.checked_plan.ensures.memory
