use Rattle.std.proofs.Common.{◌≡◌, length}
use Rattle.rly_law.specs.HelpersTable.{IsTable}
use Rattle.rly_law.proofs.step_table.StepTable.new.Given as goal

-- the entries so far are steps
abbrev pub invariant-loop-index : goal.invariant-loop-index
invariant-loop-index l = record { entries : length l.steps ≡ 1024; filled : IsTable l.interval l.index l.steps }
