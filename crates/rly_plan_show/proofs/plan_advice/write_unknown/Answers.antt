use Rattle.std.proofs.Common.{◌≡◌, Bool, true, false, ◌∙◌, sym}
use Rattle.rly_plan_show.specs.PlanAdvice.{is_plain}
use Rattle.rly_plan_show.proofs.plan_advice.write_unknown.Goals as goal

pub returns-then-is_plain : goal.returns-then-is_plain
returns-then-is_plain c =
    let plain : is_plain c.args.name.now ≡ true = sym c.is_plain.ensures ∙ c.if-is_plain.true in
    rw plain c.write.ensures.bytes

pub returns-else-is_plain : goal.returns-else-is_plain
returns-else-is_plain c =
    let quoted : is_plain c.args.name.now ≡ false = sym c.is_plain.ensures ∙ c.if-is_plain.false in
    rw quoted c.write-else-is_plain.ensures.bytes
