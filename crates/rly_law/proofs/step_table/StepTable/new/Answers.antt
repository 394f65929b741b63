use Rattle.std.proofs.Common.{◌∙◌, arith}
use Rattle.std.proofs.lemmas.List.{length-set}
use Rattle.rly_law.proofs.Tables.{IsTable-more}
use Rattle.rly_law.proofs.step_table.StepTable.new.Goals as goal

pub loop-index-preserved : goal.loop-index-preserved
loop-index-preserved c = record {
  entries = length-set c.loop-index.steps c.loop-index.index c.step.result ∙ c.loop-index.invariant.entries;
  filled =
      IsTable-more c.args.interval c.loop-index.index c.step.result c.loop-index.steps
      (omega (arith, c.loop-index.invariant.entries, c.loop-index-test.true)) c.step.ensures.value c.loop-index.invariant.filled;
}
