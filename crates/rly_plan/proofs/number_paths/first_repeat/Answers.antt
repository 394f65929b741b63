use Rattle.std.proofs.Common.{◌∙◌, ap, sym, arith, length}
use Rattle.std.specs.Prelude.{option_map}
use Rattle.rly_plan_syntax.specs.declared.key_path.KeyPath.TheVariants.{In}
use Rattle.rly_plan_syntax.specs.declared.key_path.Spot.TheVariants.{At}
use Rattle.rly_plan.proofs.PassLemmas.{repeat_at_front, repeat_after_front}
use Rattle.rly_plan.proofs.number_paths.first_repeat.Goals as goal

pub returns-then-is_there : goal.returns-then-is_there
returns-then-is_there g c =
    let found = repeat_at_front g.N.Numbered.number (length c.args.rows.now) c.loop-front.rest.now c.in-Some.later.now c.in-Some.front.now
    c.in-Some.ensures.cases.0 c.loop-front.invariant.1 (rw (← c.number.ensures, ← c.is_there.ensures) c.if-is_there.true) in
    ap (option_map (λ n. In c.args.row n (At c.args.key))) (sym found ∙ c.loop-front.invariant.0)

pub loop-front-preserved : goal.loop-front-preserved
loop-front-preserved g c =
    let more = repeat_after_front g.N.Numbered.number (length c.args.rows.now) c.loop-front.rest.now c.in-Some.later.now c.in-Some.front.now
    c.in-Some.ensures.cases.0 c.loop-front.invariant.1 (rw (← c.number.ensures, ← c.is_there.ensures) c.if-is_there.false) in
    (sym more ∙ c.loop-front.invariant.0, omega (arith, c.in-Some.ensures.cases.1, c.loop-front.invariant.1))
