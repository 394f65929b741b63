use Rattle.std.proofs.Common.{◌≡◌, string_bytes, take}
use Rattle.rly_plan_show.specs.PlanWarnings.{warning_lines}
use Rattle.rly_plan_show.proofs.plan_warnings.lines_of.Given as goal

abbrev pub invariant-loop-warning : goal.invariant-loop-warning
invariant-loop-warning l = string_bytes l.text ≡ warning_lines (take l.warning-index l.warnings)
