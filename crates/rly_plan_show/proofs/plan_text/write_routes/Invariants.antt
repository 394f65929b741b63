use Rattle.std.proofs.Common.{◌≡◌, ◌++◌, string_bytes, take}
use Rattle.rly_plan_show.specs.PlanText.{routes_text}
use Rattle.rly_plan_show.proofs.plan_text.write_routes.Given as goal

abbrev pub invariant-loop-route : goal.invariant-loop-route
invariant-loop-route l = string_bytes l.text ≡ string_bytes l.initial.text ++ routes_text (take l.route-index l.routes)
