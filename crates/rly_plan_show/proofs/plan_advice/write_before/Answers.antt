use Rattle.std.proofs.Common.{codes, option_map, string_bytes}
use Rattle.toml.specs.View.{view}
use Rattle.rly_plan_show.specs.PlanAdvice.{value_text}
use Rattle.rly_plan_show.proofs.Lines.{three_written}
use Rattle.rly_plan_show.proofs.plan_advice.write_before.Goals as goal

pub returns : goal.returns
returns c =
    three_written (string_bytes c.args.told.now) (codes " begins before ") (value_text (option_map (λ v. view v.now) c.args.before)) (codes " ends; write contacts in order")
    (string_bytes c.write.new.self) (string_bytes c.write_value.new.told) (string_bytes c.write-2.new.self) c.in_ok-write.ensures.bytes c.in_ok-write_value.ensures c.in_ok-write-2.ensures.bytes
