use Rattle.std.proofs.Common.{◌∙◌}
use Rattle.rly_journal_index.proofs.Opened.{moved_lengths, opened, opened_stands}
use Rattle.rly_journal_index.proofs.heads.law_opened.Goals as goal

pub returns-clause-index : goal.returns-clause-index
returns-clause-index g c geometry target victim s may below = opened geometry target victim s may below

pub returns-clause-kept : goal.returns-clause-kept
returns-clause-kept g c geometry target victim generation s copy t may before copied same holds outside kept = record {
  alike = moved_lengths geometry target victim s may ∙ kept.alike;
  bytes = λ honest.
      opened_stands geometry target victim s may (g.D.Disk.state c.args.old.now).seen (g.D.Disk.state c.args.new.now).seen generation copy
      (copied (before honest)) same (holds honest) (outside honest)
      ∙ kept.bytes (before honest);
}
