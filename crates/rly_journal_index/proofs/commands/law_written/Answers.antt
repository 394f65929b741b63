use Rattle.std.proofs.Common.{◌∙◌}
use Rattle.rly_journal_index.proofs.Images.{written}
use Rattle.rly_journal_index.proofs.commands.law_written.Goals as goal

pub returns : goal.returns
returns g c geometry segment used n s t index within before outside kept = record {
  alike = kept.alike;
  bytes = λ honest. written geometry segment used n s index within (outside honest) ∙ kept.bytes (before honest);
}
